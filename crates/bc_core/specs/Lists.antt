-- How control passes through a command list.
use Rattle.std.specs.Prelude.{ℕ, ◌==◌, ◌||◌, Bool, true, false, cond}
use Rattle.bc_core.specs.Commands.{Items, no_item, command, case, default, label}
use Rattle.bc_core.specs.Outcome.{Done, Run, then_do, Round, Again, Leave, repeated}
use Rattle.bc_core.specs.Exit.{Exit, Past, LeftCases, Jumped}

-- where a command list is entered
pub data Entry : Type 0 where
  Beginning : Entry
  AtCase : ℕ → Entry
  AtDefault : Entry
  AtLabel : ℕ → Entry

-- whether a list has a CASE with the value v
abbrev pub has_case : Items → ℕ → Bool
has_case no_item v = false
has_case (command c is) v = has_case is v
has_case (case k is) v = k == v || has_case is v
has_case (default is) v = has_case is v
has_case (label l is) v = has_case is v

-- whether a list has the label l
abbrev pub has_label : Items → ℕ → Bool
has_label no_item l = false
has_label (command c is) l = has_label is l
has_label (case k is) l = has_label is l
has_label (default is) l = has_label is l
has_label (label k is) l = k == l || has_label is l

-- SWITCHON enters its list at the CASE with its value, else at DEFAULT, else nowhere, so that control goes past it
abbrev pub entry_of : (has_case : ℕ → Bool) → ℕ → Entry
entry_of has_case v = cond (has_case v) (AtCase v) AtDefault

-- whether a CASE is where the list is entered
abbrev pub meets_case : ℕ → Entry → Bool
meets_case k (AtCase v) = k == v
meets_case k _ = false

-- whether DEFAULT is where the list is entered
abbrev pub meets_default : Entry → Bool
meets_default AtDefault = true
meets_default _ = false

-- whether a label is where the list is entered
abbrev pub meets_label : ℕ → Entry → Bool
meets_label k (AtLabel l) = k == l
meets_label k _ = false

-- once the entry is met, the rest of the list is done as from a beginning
abbrev pub met : Bool → Entry → Entry
met true at = Beginning
met false at = at

-- a command before the entry is passed over
abbrev pub from_entry : Entry → Run Exit → Run Exit
from_entry Beginning r = r
from_entry _ r = Done Past

-- after a list: a jump to a label of the list enters it there, any other exit leaves it
abbrev pub after_list : (has_label : ℕ → Bool) → Exit → Run (Round Entry Exit)
after_list has_label (Jumped l) = Done (cond (has_label l) (Again (AtLabel l)) (Leave (Jumped l)))
after_list has_label x = Done (Leave x)

-- a list from an entry on, with its jumps, given what its items do from each entry on
abbrev pub listed : (has_label : ℕ → Bool) → (Entry → Run Exit) → Entry → Run Exit
listed has_label items at = repeated (λ at1. then_do (items at1) (after_list has_label)) at

-- after the list of a SWITCHON: ENDCASE goes past it
abbrev pub after_cases : Exit → Run Exit
after_cases LeftCases = Done Past
after_cases x = Done x

-- SWITCHON: its value, then its list from the entry for that value
abbrev pub switched : Run ℕ → (has_case has_label : ℕ → Bool) → (Entry → Run Exit) → Run Exit
switched value has_case has_label items = then_do value (λ v. then_do (listed has_label items (entry_of has_case v)) after_cases)
