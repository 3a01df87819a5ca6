-- The certificate of the entries is accepted.
use Rattle.std.specs.Prelude.{◌≡◌, List, map}
use Rattle.bc_rules_defs.specs.declared.rule.Table.TheVariants.{Two}
use Rattle.bc_rules_defs.specs.Entry.{Entry}
use Rattle.bc_cert_write.specs.Certificate.{Derived, entry_of, certificate}
use Rattle.bc_cert_laws.specs.Entries.{Says}
use Rattle.bc_build.specs.Least.{judged}

-- The entries name derivations. The certificate of these derivations, which is the one that is written for the entries, is accepted by
-- table 2, and it says of each entry what `judged` has: where its code is, the code itself, and its number of words.
pub record IsCertified (entries : List Entry) : Type 0 where
  pub derived : List Derived
  pub named : entries ≡ map entry_of derived
  pub said : Says (certificate derived) (record { table = Two; entries = map judged entries })
