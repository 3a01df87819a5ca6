-- A code line is read as pieces exactly if it is the line of these pieces.
use Rattle.std.proofs.Common.{◌≡◌, ⊎_elim, ℕ, ◌==◌, Bool, true, false, cond, List, [], ◌∷◌, ◌++◌, map, Option, Some, None, refl, ap, ap₂, sym, subst, ◌∙◌, arith, append_assoc, append-nil}
use Rattle.std.specs.List.{AllByRecursion}
use Rattle.std.proofs.lemmas.Bool.{eqb-true}
use Rattle.bc_text_items.specs.declared.item.Item.{Item}
use Rattle.bc_rules_defs.specs.declared.piece.Piece.{Piece}
use Rattle.bc_rules_defs.specs.declared.piece.Piece.TheVariants as pieces
use Rattle.bc_text.specs.Printed.{printed}
use Rattle.bc_cert_read.specs.Fields.{◌>>=◌, number, fields, following}
use Rattle.bc_cert_read.specs.Items.{item}
use Rattle.bc_cert_read.specs.Lines.{body_of, item_piece, piece, pieces_after, code_of_line}
use Rattle.bc_cert_laws.specs.Entries.{piece_field, PieceHasRoom, pieces_line}
use Rattle.bc_cert_laws.proofs.Numbers.{got, chosen, passed, number_read, number_back}
use Rattle.bc_cert_laws.proofs.Fields.{Without, Above, each, lower, without, joined, after_read, parted, fields_back, line_from, line_to, IsOneLine, line_ends}
use Rattle.bc_cert_laws.proofs.Forms.{at_same, number_above}
use Rattle.bc_cert_laws.proofs.Items.{item_read, item_back, item_above}

-- one piece
abbrev Says : List ℕ → Piece → Type 0
Says text p = (text ≡ piece_field p) × PieceHasRoom p

body_read : (bs : List ℕ) (p : Piece) (o : Option ℕ) → number bs ≡ o → body_of o ≡ Some p → Says (63 ∷ bs) p
body_read bs p None e h = absurd (cc)
body_read bs p (Some n) e h = let r = number_read n bs e in at_same (Says (63 ∷ bs)) (pieces.Body n) p h (ap (λ t. 63 ∷ t) r.0, r.1)

item_piece_read : (text : List ℕ) (p : Piece) (o : Option Item) → item text ≡ o → item_piece o ≡ Some p → Says text p
item_piece_read text p None e h = absurd (cc)
item_piece_read text p (Some i) e h = at_same (Says text) (pieces.Item i) p h (item_read text i e)

piece_read : (text : List ℕ) (p : Piece) → piece text ≡ Some p → Says text p
piece_read [] p h = absurd (cc)
piece_read (b ∷ bs) p h =
    ⊎_elim
    (λ q. subst (λ c. Says (c ∷ bs) p) (sym (eqb-true b 63 q.0)) (body_read bs p (number bs) refl q.1))
    (λ q. item_piece_read (b ∷ bs) p (item (b ∷ bs)) refl q.1)
    (chosen (b == 63) _ _ p h)

item_at : (b : ℕ) (bs : List ℕ) (i : Item) (t : Bool) → (b == 63) ≡ t → item (b ∷ bs) ≡ Some i → cond t (body_of (number bs)) (item_piece (item (b ∷ bs))) ≡ Some (pieces.Item i)
item_at b bs i true e h = let n : item (63 ∷ bs) ≡ Some i = sym (ap (λ c. item (c ∷ bs)) (eqb-true b 63 e)) ∙ h in absurd (cc)
item_at b bs i false e h = ap item_piece h

item_is_piece : (text : List ℕ) (i : Item) → item text ≡ Some i → piece text ≡ Some (pieces.Item i)
item_is_piece [] i h = absurd (cc)
item_is_piece (b ∷ bs) i h = item_at b bs i (b == 63) refl h

piece_back : (p : Piece) → PieceHasRoom p → piece (piece_field p) ≡ Some p
piece_back (pieces.Item i) h = item_is_piece (printed i) i (item_back i h)
piece_back (pieces.Body n) h = ap body_of (number_back n h)

piece_above : (p : Piece) → PieceHasRoom p → Above 32 (piece_field p)
piece_above (pieces.Item i) h = item_above i h
piece_above (pieces.Body n) h = (omega arith, number_above 32 n (omega arith) h)

-- pieces in fields
record PiecesRead (front : List Piece) (fs : List (List ℕ)) (ps : List Piece) : Type 0 where
  list : List Piece
  all : ps ≡ front ++ list
  are : fs ≡ map piece_field list
  room : AllByRecursion PieceHasRoom list

pieces_read : (front : List Piece) (fs : List (List ℕ)) (ps : List Piece) → pieces_after front fs ≡ Some ps → PiecesRead front fs ps
pieces_read front [] ps h = let e : front ≡ ps = cc in record { list = []; all = sym (append-nil front ∙ e); are = refl; room = tt }
pieces_read front (f ∷ fs) ps h =
    let p = got (piece f) (λ x. pieces_after (front ++ x ∷ []) fs) ps h in
    let s = piece_read f p.0 p.1 in
    let rest = pieces_read (front ++ p.0 ∷ []) fs ps p.2 in
    record { list = p.0 ∷ rest.list; all = rest.all ∙ append_assoc front (p.0 ∷ []) rest.list; are = ap₂ (λ x xs. x ∷ xs) s.0 rest.are; room = (s.1, rest.room) }

pieces_back : (front ps : List Piece) → AllByRecursion PieceHasRoom ps → pieces_after front (map piece_field ps) ≡ Some (front ++ ps)
pieces_back front [] h = ap Some (sym (append-nil front))
pieces_back front (p ∷ ps) h = rw (piece_back p h.0) (pieces_back (front ++ p ∷ []) ps h.1 ∙ ap Some (append_assoc front (p ∷ []) ps))

-- a code line
abbrev CodeRead : List ℕ → List Piece → Type 0
CodeRead l ps = (l ++ 10 ∷ [] ≡ pieces_line ps) × AllByRecursion PieceHasRoom ps

of_fields : (text f : List ℕ) (fs : List (List ℕ)) (ps : List Piece) → text ≡ joined 32 f fs → f ∷ fs ≡ map piece_field ps → 67 ∷ 32 ∷ text ≡ joined 32 (67 ∷ []) (map piece_field ps)
of_fields text f fs [] e h = absurd (cc)
of_fields text f fs (p ∷ ps) e h =
    let first : f ≡ piece_field p = cc in
    let more : fs ≡ map piece_field ps = cc in
    ap (λ t. 67 ∷ 32 ∷ t) (e ∙ ap₂ (joined 32) first more)

further_read : (l : List ℕ) (ps : List Piece) → following l 67 >>= (λ text. pieces_after [] (fields 32 text)) ≡ Some ps → CodeRead l ps
further_read l ps h =
    let p = got (following l 67) (λ text. pieces_after [] (fields 32 text)) ps h in
    let f = parted 32 p.0 in
    let r = pieces_read [] (f.first ∷ f.more) ps (sym (ap (pieces_after []) f.fields) ∙ p.2) in
    subst (CodeRead l) (sym r.all) (line_from l (67 ∷ []) (map piece_field r.list) (after_read 67 l p.0 p.1 ∙ of_fields p.0 f.first f.more r.list f.is r.are), r.room)

pub code_read : (l : List ℕ) (ps : List Piece) → code_of_line l ≡ Some ps → (l ++ 10 ∷ [] ≡ pieces_line ps) × AllByRecursion PieceHasRoom ps
code_read [] ps h = absurd (cc)
code_read (b ∷ []) ps h = let p = passed (b == 67) (Some []) ps h in at_same (CodeRead (b ∷ [])) [] ps p.1 (ap (λ c. c ∷ 10 ∷ []) (eqb-true b 67 p.0), tt)
code_read (b ∷ c ∷ bs) ps h = further_read (b ∷ c ∷ bs) ps h

all_above : (ps : List Piece) → AllByRecursion PieceHasRoom ps → AllByRecursion (Above 32) (map piece_field ps)
all_above [] h = tt
all_above (p ∷ ps) h = (piece_above p h.0, all_above ps h.1)

joined_back : (ps : List Piece) → AllByRecursion PieceHasRoom ps → code_of_line (joined 32 (67 ∷ []) (map piece_field ps)) ≡ Some ps
joined_back [] h = refl
joined_back (p ∷ ps) h =
    let all = each (Above 32) (Without 32) (without 32 32 (omega arith)) (map piece_field (p ∷ ps)) (all_above (p ∷ ps) h) in
    ap (pieces_after []) (fields_back 32 (piece_field p) (map piece_field ps) all.0 all.1) ∙ pieces_back [] (p ∷ ps) h

pub code_back : (l : List ℕ) (ps : List Piece) → AllByRecursion PieceHasRoom ps → l ++ 10 ∷ [] ≡ pieces_line ps → code_of_line l ≡ Some ps
code_back l ps h e = ap code_of_line (line_to l (67 ∷ []) (map piece_field ps) e) ∙ joined_back ps h

pub code_ends : (ps : List Piece) → AllByRecursion PieceHasRoom ps → IsOneLine (pieces_line ps)
code_ends ps h = line_ends (67 ∷ []) (map piece_field ps) ((omega arith, tt), each (Above 32) (Above 10) lower (map piece_field ps) (all_above ps h))
