-- The certificate of derivations of least words is accepted if its numbers have room.
use Rattle.std.proofs.Common.{◌≡◌, ℕ, List, [], ◌∷◌, ◌++◌, map, length, flat_map, refl, ap, sym, subst, ◌∙◌, append-nil, append_assoc, arith}
use Rattle.std.specs.List.{AllZip, AllByRecursion}
use Rattle.std.specs.Fmt.{decimal}
use Rattle.std.proofs.lemmas.List.{length-map}
use Rattle.bc_rules_defs.specs.declared.piece.Piece.{Piece}
use Rattle.bc_rules_defs.specs.declared.piece.Piece.TheVariants.{Item, Body}
use Rattle.bc_rules_defs.specs.declared.rule.Table.TheVariants.{Two}
use Rattle.bc_rules_defs.specs.Code.{root_code}
use Rattle.bc_rules_defs.proofs.Words.{root_words}
use Rattle.bc_cert_defs.specs.Text.{header_line, end_line}
use Rattle.bc_cert_defs.specs.Verdict.{Judged}
use Rattle.bc_cert_write.specs.Shown.{root_shown}
use Rattle.bc_cert_write.specs.Lines.{line, entry_line, node_line, root_line, code_fields, code_line}
use Rattle.bc_cert_write.specs.Certificate.{Derived, entry_text}
use Rattle.bc_cert_laws.specs.Entries.{IsNumber, piece_field, PieceHasRoom, SamePiece, Listed, AllListed, none, more}
use Rattle.bc_cert_laws.specs.Written.{with_bodies, judged_of, HasRoom, HasFewest}
use Rattle.bc_cert_laws.specs.Laws.{CertificateIsSaid}
use Rattle.bc_cert_laws.proofs.Rooms.{HaveItemRoom, root_code_room}

-- bodies have the numbers of the line
same : (ps : List Piece) (bodies : List ℕ) → AllZip SamePiece (with_bodies ps bodies) ps
same [] bodies = tt
same (Item i ∷ ps) bodies = (refl, same ps bodies)
same (Body k ∷ ps) [] = (tt, same ps [])
same (Body k ∷ ps) (n ∷ bodies) = (tt, same ps bodies)

have_room : (ps : List Piece) (bodies : List ℕ) → HaveItemRoom ps → AllByRecursion IsNumber bodies → AllByRecursion PieceHasRoom (with_bodies ps bodies)
have_room [] bodies h k = tt
have_room (Item i ∷ ps) bodies h k = (h.0, have_room ps bodies h.1 k)
have_room (Body m ∷ ps) [] h k = (omega arith, have_room ps [] h.1 tt)
have_room (Body m ∷ ps) (n ∷ bodies) h k = (k.0, have_room ps bodies h.1 k.1)

fields_are : (ps : List Piece) (bodies : List ℕ) → code_fields ps bodies ≡ map piece_field (with_bodies ps bodies)
fields_are [] bodies = refl
fields_are (Item i ∷ ps) bodies = ap (λ l. piece_field (Item i) ∷ l) (fields_are ps bodies)
fields_are (Body k ∷ ps) [] = ap (λ l. (63 ∷ decimal 0) ∷ l) (fields_are ps [])
fields_are (Body k ∷ ps) (n ∷ bodies) = ap (λ l. (63 ∷ decimal n) ∷ l) (fields_are ps bodies)

listed : (d : Derived) → HasFewest d → HasRoom d → Listed Two (judged_of d) (entry_text d)
listed d fewest room =
    let code = root_code d.derivation d.target d.first in
    record {
      derivation = d.derivation;
      code = same code d.bodies;
      words = refl;
      fewest = fewest;
      segment = room.segment;
      item = room.item;
      target = room.target;
      first = room.first;
      count = room.words;
      labels = room.labels;
      nodes = room.nodes;
      root = room.root;
      pieces = have_room code d.bodies (root_code_room d.derivation d.target d.first room.target room.labels room.root room.nodes) room.bodies;
      lines =
          ap (λ n. entry_line d.segment d.item d.target d.first n ++ (flat_map (node_line Two) (root_shown d.derivation) ++ (root_line d.derivation ++ code_line code d.bodies))) (root_words d.derivation d.target d.first)
          ∙ ap (λ l. entry_line d.segment d.item d.target d.first (judged_of d).words ++ (flat_map (node_line Two) (root_shown d.derivation) ++ (root_line d.derivation ++ line (67 ∷ []) l))) (fields_are code d.bodies);
    }

all_listed : (ds : List Derived) (js : List Judged) (texts : List ℕ) → AllByRecursion HasFewest ds → AllByRecursion HasRoom ds → AllListed Two js texts → AllListed Two (js ++ map judged_of ds) (texts ++ flat_map entry_text ds)
all_listed [] js texts f r h = subst (λ l. AllListed Two (js ++ []) l) (sym (append-nil texts)) (subst (λ l. AllListed Two l texts) (sym (append-nil js)) h)
all_listed (d ∷ ds) js texts f r h =
    let all = all_listed ds (js ++ judged_of d ∷ []) (texts ++ entry_text d) f.1 r.1 (more h (listed d f.0 r.0)) in
    subst (λ l. AllListed Two (js ++ map judged_of (d ∷ ds)) l) (append_assoc texts (entry_text d) (flat_map entry_text ds))
    (subst (λ l. AllListed Two l ((texts ++ entry_text d) ++ flat_map entry_text ds)) (append_assoc js (judged_of d ∷ []) (map judged_of ds)) all)

pub certificate_is_said : CertificateIsSaid
certificate_is_said ds fewest room few =
    let n : length ds ≡ length (map judged_of ds) = sym (length-map ds judged_of) in
    record {
      texts = flat_map entry_text ds;
      entries = all_listed ds [] [] fewest room none;
      count = subst IsNumber n few;
      text = ap (λ m. header_line Two ++ (flat_map entry_text ds ++ end_line m)) n;
    }
