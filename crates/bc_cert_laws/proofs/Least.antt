-- Accepted entries are code of least words, and entries whose rules are derivations have a certificate.
use Rattle.std.proofs.Common.{◌≡◌, ℕ, List, [], ◌∷◌, map, refl, ap, sym, ◌∙◌}
use Rattle.std.specs.List.{AllByRecursion}
use Rattle.bc_rules_defs.specs.declared.rule.Table.{Table}
use Rattle.bc_rules_defs.specs.declared.rule.Table.TheVariants.{Two}
use Rattle.bc_rules_defs.specs.Entry.{Entry}
use Rattle.bc_cert_defs.specs.Verdict.{Judged}
use Rattle.bc_rules.specs.Derivation.{IsDerivation}
use Rattle.bc_cert_write.specs.Certificate.{Derived, entry_of}
use Rattle.bc_cert_laws.specs.Entries.{Listed, AllListed, none, more}
use Rattle.bc_cert_laws.specs.Laws.{IsLeastCode, AcceptedIsLeast, HaveCertificate}
use Rattle.bc_cert_laws.proofs.Fields.{each_of_two}

least_of : {T : Table} {j : Judged} {text : List ℕ} → Listed T j text → IsLeastCode T j
least_of h = record { derivation = h.derivation; code = h.code; words = h.words; fewest = h.fewest }

all_least : {T : Table} {js : List Judged} {texts : List ℕ} → AllListed T js texts → AllByRecursion (IsLeastCode T) js
all_least none = tt
all_least {T = T} (more {j = j} {js = js} h l) = each_of_two (IsLeastCode T) js (j ∷ []) (all_least h) (least_of l, tt)

pub accepted_is_least : AcceptedIsLeast
accepted_is_least bytes v h = all_least h.entries

derived : (e : Entry) → IsDerivation Two e.root e.derivation → Derived
derived e h = record { segment = e.segment; item = e.item; target = e.target; first = e.first; root = e.root; derivation = h.0; bodies = e.bodies }

derived_is : (e : Entry) (h : IsDerivation Two e.root e.derivation) → e ≡ entry_of (derived e h)
unfolding derived
derived_is e h = ap (λ x. record e { derivation = x }) (sym h.1)

pub have_certificate : HaveCertificate
have_certificate [] h = ([], refl)
have_certificate (e ∷ es) h =
    let others = have_certificate es h.1 in
    (derived e h.0 ∷ others.0, ap (λ l. e ∷ l) others.1 ∙ ap (λ x. x ∷ map entry_of others.0) (derived_is e h.0))
