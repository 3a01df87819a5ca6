-- Cutting off one field after another gives the fields of the text.
use Rattle.std.proofs.Common.{◌≡◌, ℕ, ◌==◌, Bool, true, false, List, [], ◌∷◌, ◌++◌, Option, Some, None, cond, refl, ap, sym, ◌∙◌}
use Rattle.bc_rules_defs.specs.declared.rule.Rule.{Rule}
use Rattle.bc_rules_defs.specs.declared.piece.Piece.{Piece}
use Rattle.bc_cert_read.specs.declared.chain.Names.{Names}
use Rattle.bc_cert_read.specs.Fields.{◌>>=◌, Cut, cut, longer, fields, put}
use Rattle.bc_cert_read.specs.Chains.{names_from, rule_name, ended, longer as longer_names}
use Rattle.bc_cert_read.specs.Lines.{Adds, piece, pieces_after}

-- the first field of a cut, and the fields after it
abbrev pub rest_fields : ℕ → Option (List ℕ) → List (List ℕ)
rest_fields separator None = []
rest_fields separator (Some rest) = fields separator rest

abbrev pub cut_fields : ℕ → Cut → List (List ℕ)
cut_fields separator c = c.first ∷ rest_fields separator c.following

cut_again : (separator b : ℕ) (bs : List ℕ) (t : Bool) → fields separator bs ≡ cut_fields separator (cut separator bs) → cond t ([] ∷ fields separator bs) (put b (fields separator bs)) ≡ cut_fields separator (cond t (record { first = []; following = Some bs }) (longer (b ∷ []) (cut separator bs)))
cut_again separator b bs true h = refl
cut_again separator b bs false h = ap (λ fs. put b fs) h

pub fields_cut : (separator : ℕ) (bs : List ℕ) → fields separator bs ≡ cut_fields separator (cut separator bs)
fields_cut separator [] = refl
fields_cut separator (b ∷ bs) = cut_again separator b bs (b == separator) (fields_cut separator bs)

-- a turn of the loop over rules
names_at : (ns : Names) (rest : List ℕ) (c : Cut) → c ≡ cut 46 rest → names_from ns (fields 46 rest) ≡ names_from ns (cut_fields 46 c)
names_at ns rest c h = ap (λ fs. names_from ns fs) (fields_cut 46 rest ∙ ap (λ x. cut_fields 46 x) (sym h))

pub names_none : (ns : Names) (rest : List ℕ) (c : Cut) → c ≡ cut 46 rest → rule_name c.first ≡ None → names_from ns (fields 46 rest) ≡ None
names_none ns rest c h i = names_at ns rest c h ∙ ap (λ r. r >>= (λ x. names_from (longer_names ns x) (rest_fields 46 c.following))) i

pub names_last : (ns : Names) (rest : List ℕ) (c : Cut) (r : Option Rule) → c ≡ cut 46 rest → rule_name c.first ≡ Some r → c.following ≡ None → names_from ns (fields 46 rest) ≡ Some (ended (longer_names ns r))
names_last ns rest c r h i j =
    names_at ns rest c h
    ∙ ap (λ q. q >>= (λ x. names_from (longer_names ns x) (rest_fields 46 c.following))) i
    ∙ ap (λ b. names_from (longer_names ns r) (rest_fields 46 b)) j

pub names_more : (ns : Names) (rest : List ℕ) (c : Cut) (r : Option Rule) (more : List ℕ) → c ≡ cut 46 rest → rule_name c.first ≡ Some r → c.following ≡ Some more → names_from ns (fields 46 rest) ≡ names_from (longer_names ns r) (fields 46 more)
names_more ns rest c r more h i j =
    names_at ns rest c h
    ∙ ap (λ q. q >>= (λ x. names_from (longer_names ns x) (rest_fields 46 c.following))) i
    ∙ ap (λ b. names_from (longer_names ns r) (rest_fields 46 b)) j

-- a turn of the loop over pieces
pieces_at : (ps : List Piece) (rest : List ℕ) (c : Cut) → c ≡ cut 32 rest → pieces_after ps (fields 32 rest) ≡ pieces_after ps (cut_fields 32 c)
pieces_at ps rest c h = ap (λ fs. pieces_after ps fs) (fields_cut 32 rest ∙ ap (λ x. cut_fields 32 x) (sym h))

not_added : (o : Option Piece) (old new : List Piece) → Adds false o old new → o ≡ None
not_added None old new h = refl
not_added (Some p) old new h = absurd h

pub pieces_none : (ps qs : List Piece) (rest : List ℕ) (c : Cut) → c ≡ cut 32 rest → Adds false (piece c.first) ps qs → pieces_after ps (fields 32 rest) ≡ None
pieces_none ps qs rest c h i = pieces_at ps rest c h ∙ ap (λ r. r >>= (λ x. pieces_after (ps ++ x ∷ []) (rest_fields 32 c.following))) (not_added (piece c.first) ps qs i)

added : (o : Option Piece) (ps qs : List Piece) (fs : List (List ℕ)) → Adds true o ps qs → o >>= (λ x. pieces_after (ps ++ x ∷ []) fs) ≡ pieces_after qs fs
added None ps qs fs h = absurd h
added (Some p) ps qs fs h = ap (λ x. pieces_after x fs) (sym h)

pub pieces_last : (ps qs : List Piece) (rest : List ℕ) (c : Cut) → c ≡ cut 32 rest → Adds true (piece c.first) ps qs → c.following ≡ None → pieces_after ps (fields 32 rest) ≡ Some qs
pieces_last ps qs rest c h i j = pieces_at ps rest c h ∙ added (piece c.first) ps qs (rest_fields 32 c.following) i ∙ ap (λ b. pieces_after qs (rest_fields 32 b)) j

pub pieces_more : (ps qs : List Piece) (rest : List ℕ) (c : Cut) (more : List ℕ) → c ≡ cut 32 rest → Adds true (piece c.first) ps qs → c.following ≡ Some more → pieces_after ps (fields 32 rest) ≡ pieces_after qs (fields 32 more)
pieces_more ps qs rest c more h i j = pieces_at ps rest c h ∙ added (piece c.first) ps qs (rest_fields 32 c.following) i ∙ ap (λ b. pieces_after qs (rest_fields 32 b)) j
