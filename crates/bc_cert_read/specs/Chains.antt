-- For proofs: the rules that the last field of a node line names, computed as the program does it.
use Rattle.std.specs.Prelude.{ℕ, ◌==◌, ◌&&◌, ◌||◌, Bool, true, false, cond, List, [], ◌∷◌, Option, Some, None}
use Rattle.bc_rules_defs.specs.declared.rule.Rule.{Rule}
use Rattle.bc_rules_defs.specs.declared.rule.Rule.TheVariants.{V0, J6}
use Rattle.bc_rules_defs.specs.Names.{rule_letter, rule_named}
use Rattle.bc_cert_read.specs.declared.chain.Rules.{Rules}
use Rattle.bc_cert_read.specs.declared.chain.Rules.TheVariants as kinds
use Rattle.bc_cert_read.specs.declared.chain.Names.{Names}
use Rattle.bc_cert_read.specs.declared.chain.Names.TheVariants.{Nothing, Tested, Freed, Whole, Wrong}
use Rattle.bc_cert_read.specs.Fields.{◌>>=◌, small, fields}

abbrev pub with_number : ℕ → Option ℕ → Option (Option Rule)
with_number letter None = None
with_number letter (Some n) = Some (rule_named letter n)

abbrev pub rule_name : List ℕ → Option (Option Rule)
rule_name [] = None
rule_name (b ∷ bs) = cond (b == 86 || b == 74 || b == 65) (with_number b (small bs)) None

abbrev pub whole : Bool → Bool → Rule → Names
whole tested freed r = Whole (record { is_tested = tested; is_freed = freed; rule = r })

abbrev pub of_value : Rule → Names → Names
of_value r names = cond (rule_letter r == 86) names Wrong

abbrev pub begun : Rule → Names
begun J6 = Tested
begun V0 = Freed false
begun r = whole false false r

abbrev pub after_test : Rule → Names
after_test V0 = Freed true
after_test r = of_value r (whole true false r)

abbrev pub after_free : Bool → Rule → Names
after_free tested V0 = Wrong
after_free tested r = of_value r (whole tested true r)

abbrev pub longer_by : Names → Rule → Names
longer_by Nothing r = begun r
longer_by Tested r = after_test r
longer_by (Freed tested) r = after_free tested r
longer_by _ r = Wrong

abbrev pub longer : Names → Option Rule → Names
longer names None = Wrong
longer names (Some r) = longer_by names r

abbrev pub ended : Names → Rules
ended (Whole c) = kinds.Named c
ended _ = kinds.Wrong

abbrev pub names_from : Names → List (List ℕ) → Option Rules
names_from names [] = Some (ended names)
names_from names (f ∷ fs) = rule_name f >>= (λ r. names_from (longer names r) fs)

abbrev pub names : List ℕ → Option Rules
names text = names_from Nothing (fields 46 text)

abbrev pub rules : List ℕ → Option Rules
rules (b ∷ []) = cond (b == 45) (Some kinds.Taken) (names (b ∷ []))
rules text = names text
