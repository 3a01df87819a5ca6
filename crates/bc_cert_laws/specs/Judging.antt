-- For proofs: the function of the bytes that the checker computes. It goes line by line and returns the verdict or the first fault.
use Rattle.std.specs.Prelude.{ℕ, ◌+◌, ◌==◌, Bool, true, false, ◌&&◌, cond, nat_le, length, List, [], ◌∷◌, ◌++◌, Option, Some, None, Result, Ok, Err}
use Rattle.bc_text_items.specs.declared.item.Item.{Item}
use Rattle.bc_text_items.specs.contracts.item.ItemPartialEq.TheImpl.{ghosts}
use Rattle.bc_cert_defs.specs.declared.check_fault.CheckFault.{CheckFault}
use Rattle.bc_cert_defs.specs.declared.check_fault.CheckFault.TheVariants.{Header, Line, Truncated, WrongRule, WrongCode, WrongWords}
use Rattle.bc_cert_defs.specs.Verdict.{Judged, Verdict}
use Rattle.bc_rules_defs.specs.declared.piece.Piece.{Piece}
use Rattle.bc_rules_defs.specs.declared.piece.Piece.TheVariants as pieces
use Rattle.bc_rules_defs.specs.declared.rule.Table.{Table}
use Rattle.bc_rules_defs.specs.declared.rule.Table.TheVariants.{One}
use Rattle.bc_rules_defs.specs.ByShape.{root_code_by, root_labels_by}
use Rattle.bc_rules_defs.specs.Piece.{words}
use Rattle.bc_rules.specs.Fits.{root_fits}
use Rattle.bc_cert_defs.specs.declared.head.Head.{Head}
use Rattle.bc_cert_read.specs.declared.lines.NodeLine.{NodeLine}
use Rattle.bc_cert_read.specs.declared.lines.RootLine.{RootLine}
use Rattle.bc_cert_read.specs.Lines.{header, entry_line, end_line, node_line, root_line, code_of_line}
use Rattle.bc_cert_read.specs.declared.position.Position.{Position}
use Rattle.bc_cert_read.specs.Stacks.{◌>>=◌, with_whole, Stack, no_trees, Rooted, node_step, root_step}

-- which lines may come next
pub data Stage : Type 0 where
  the_header : Stage
  between : Stage
  nodes : Head → Stage
  code : Head → Rooted → Stage
  the_end : Stage

pub record State : Type 0 where
  -- the number of lines that were judged
  pub lines : ℕ
  pub table : Table
  pub entries : List Judged
  pub stage : Stage
  pub trees : Stack
  pub nodes : ℕ

abbrev pub start : State
start = record { lines = 0; table = One; entries = []; stage = the_header; trees = no_trees; nodes = 0 }

-- two codes are the same, except for the numbers of bodies
abbrev pub same_item : Item → Item → Bool
same_item i j = ghosts.eq i j

abbrev pub same_piece : Piece → Piece → Bool
same_piece (pieces.Item i) (pieces.Item j) = same_item i j
same_piece (pieces.Item i) (pieces.Body n) = false
same_piece (pieces.Body m) (pieces.Item j) = false
same_piece (pieces.Body m) (pieces.Body n) = true

abbrev pub same_code : List Piece → List Piece → Bool
same_code [] [] = true
same_code (p ∷ ps) (q ∷ qs) = cond (same_piece p q) (same_code ps qs) false
same_code [] (q ∷ qs) = false
same_code (p ∷ ps) [] = false

-- the accepted entry with this code
abbrev pub judged_with : Head → Rooted → List Piece → Judged
judged_with h r ps = record { segment = h.segment; item = h.item; root = r.root; target = h.target; first = h.first; code = ps; words = h.words }

abbrev pub code_against : Head → ℕ → List Piece → Position → List Piece → Result (Unit {0}) CheckFault
code_against h least ps p right =
    cond (same_code ps right)
    (cond (words right == h.words && least == h.words) (Ok tt) (Err (WrongWords p.entry)))
    (Err (WrongCode p.entry))

-- the code of the derivation, if its labels are at most 65,535
abbrev pub right_of : Head → Rooted → Option (List Piece)
right_of h r = cond (nat_le (h.first + root_labels_by r.root r.derivation) 65536) (Some (root_code_by r.root r.derivation h.target h.first)) None

abbrev pub against_right : Head → Rooted → Position → List Piece → Option (List Piece) → Result (Unit {0}) CheckFault
against_right h r p ps None = Err (WrongCode p.entry)
against_right h r p ps (Some right) = code_against h r.words ps p right

abbrev pub code_fits : Table → Head → Rooted → Position → List Piece → Result (Unit {0}) CheckFault
code_fits T h r p ps = cond (root_fits T r.root r.derivation) (against_right h r p ps (right_of h r)) (Err (WrongRule p.entry p.node))

abbrev pub pieces_judged : Table → Head → Rooted → List ℕ → Position → Result (List Piece) CheckFault
pieces_judged T h r line p = with_whole p (code_of_line line) >>= (λ ps. code_fits T h r p ps >>= (λ x. Ok ps))

abbrev pub code_judged : Table → Head → Rooted → List ℕ → Position → Result Judged CheckFault
code_judged T h r line p = pieces_judged T h r line p >>= (λ ps. Ok (judged_with h r ps))

-- the first line
abbrev pub begun : State → Option Table → Result State CheckFault
begun st None = Err Header
begun st (Some T) = Ok (record st { table = T; stage = between })

abbrev pub begin_step : List ℕ → State → Result State CheckFault
begin_step line st = begun st (header line)

-- an `E` line or the `Z` line
abbrev pub ended : Position → State → Option ℕ → Result State CheckFault
ended p st None = Err (Line p.line)
ended p st (Some n) = cond (n == p.entry) (Ok (record st { stage = the_end })) (Err (Line p.line))

abbrev pub entered : List ℕ → Position → State → Option Head → Result State CheckFault
entered line p st (Some h) = Ok (record st { stage = nodes h; trees = no_trees; nodes = 0 })
entered line p st None = ended p st (end_line line)

abbrev pub between_step : List ℕ → Position → State → Result State CheckFault
between_step line p st = entered line p st (entry_line line)

-- a node line or a root line
abbrev pub rooted : Head → Position → State → Option RootLine → Result State CheckFault
rooted h p st None = Err (Line p.line)
rooted h p st (Some r) = root_step r p st.trees >>= (λ x. Ok (record st { stage = code h x; trees = no_trees }))

abbrev pub noded : Head → List ℕ → Position → State → Option NodeLine → Result State CheckFault
noded h line p st (Some n) = node_step st.table n p st.trees >>= (λ ts. Ok (record st { stage = nodes h; trees = ts; nodes = st.nodes + 1 }))
noded h line p st None = rooted h p st (root_line line)

abbrev pub within_step : Head → List ℕ → Position → State → Result State CheckFault
within_step h line p st = noded h line p st (node_line line)

-- a code line
abbrev pub code_step : Head → Rooted → List ℕ → Position → State → Result State CheckFault
code_step h r line p st = code_judged st.table h r line p >>= (λ j. Ok (record st { entries = st.entries ++ j ∷ []; stage = between }))

abbrev pub step_at : Stage → List ℕ → Position → State → Result State CheckFault
step_at the_header line p st = begin_step line st
step_at between line p st = between_step line p st
step_at (nodes h) line p st = within_step h line p st
step_at (code h r) line p st = code_step h r line p st
step_at the_end line p st = Err (Line p.line)

-- the place of a line, whose number is one more than that of the lines before it
abbrev pub place_of : State → Position
place_of st = record { line = st.lines; entry = length st.entries; node = st.nodes }

abbrev pub counted : State → State
counted st = record st { lines = st.lines + 1; stage = the_end }

abbrev pub line_step : List ℕ → State → Result State CheckFault
line_step line st = step_at st.stage line (place_of (counted st)) (counted st)

-- the next byte, after those of an incomplete line
abbrev pub byte_step : ℕ → State × List ℕ → Result (State × List ℕ) CheckFault
byte_step b s = cond (b == 10) (line_step s.1 s.0 >>= (λ st. Ok (st, []))) (Ok (s.0, s.1 ++ b ∷ []))

abbrev pub feed_from : List ℕ → State × List ℕ → Result (State × List ℕ) CheckFault
feed_from [] s = Ok s
feed_from (b ∷ bs) s = byte_step b s >>= (λ t. feed_from bs t)

-- the end of the bytes
abbrev pub no_rest : List ℕ → State → Result Verdict CheckFault
no_rest [] st = Ok (record { table = st.table; entries = st.entries })
no_rest line st = Err Truncated

abbrev pub finished_at : Stage → State × List ℕ → Result Verdict CheckFault
finished_at the_header s = Err Header
finished_at the_end s = no_rest s.1 s.0
finished_at _ s = Err Truncated

abbrev pub finished : State × List ℕ → Result Verdict CheckFault
finished s = finished_at s.0.stage s

-- what the bytes say, or their first fault
abbrev pub judged_from : List ℕ → State × List ℕ → Result Verdict CheckFault
judged_from bytes s = feed_from bytes s >>= (λ t. finished t)

abbrev pub judged : List ℕ → Result Verdict CheckFault
judged bytes = judged_from bytes (start, [])
