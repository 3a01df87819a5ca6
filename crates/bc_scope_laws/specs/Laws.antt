-- The laws that `bc_scope_laws::laws` proves: the translation of a section keeps its meaning, and is well formed.
use Rattle.std.specs.Prelude.{ℕ, ◌≡◌, ◌+◌, ◌≤◌, Bool, true, None, List, [], ◌∷◌, map}
use Rattle.bc_machine_defs.specs.Streams.{Content}
use Rattle.bc_parse_tree.specs.Tree.{Exp, Exps, Command, Declarations}
use Rattle.bc_parse_tree.specs.Size.{declarations_size}
use Rattle.bc_core.specs.Tree as core
use Rattle.bc_core.specs.Commands.{Place, Code, Valof}
use Rattle.bc_core.specs.Level.{side_level, cells_declared}
use Rattle.bc_core.specs.Layout.{frame_size}
use Rattle.bc_core.specs.Numbers.{core_has_words}
use Rattle.bc_core.specs.Map.{Map}
use Rattle.bc_core.specs.WellFormed.{is_core}
use Rattle.bc_core.specs.Value.{sense}
use Rattle.bc_core.specs.Command.{perform}
use Rattle.bc_core.specs.Meaning.{context, valofs_from, meaning}
use Rattle.bc_scope_defs.specs.Scope.{Meant, Static, Global, Routine, Variable, Env, Numbers}
use Rattle.bc_scope_defs.specs.Scope as scope
use Rattle.bc_scope_defs.specs.Scoping.{count, level_after, seen_through}
use Rattle.bc_scope_defs.specs.Sides.{side_levels}
use Rattle.bc_scope_defs.specs.Meaning.{Around, worth, run_command}
use Rattle.bc_scope_defs.specs.Translation.{Forms, forms, forms_of_all, core_arguments, core_declarations, core_command, valofs_of, core_of}
use Rattle.bc_scope_defs.specs.Found.{Thing, AValof, ARoutine, Data, FoundRoutine, found, found_in_command, found_in_section}
use Rattle.bc_scope_defs.specs.Frames.{width, width_of_declarations, width_of_command, frame_of}
use Rattle.bc_scope_defs.specs.FramesAlong as frames_along
use Rattle.bc_scope_defs.specs.Faults.{Allowed, fault, declarations_fault, command_fault, section_fault}
use Rattle.bc_scope_defs.specs.FaultsAlong as faults_along
use Rattle.bc_scope_defs.specs.Words.{DeclarationsHaveWords}
use Rattle.bc_scope_defs.specs.Sections.{meaning_of_sections}

-- a list of sections means what the list of their translations means, for all maps, inputs and numbers of turns
abbrev pub SectionsKeepTheirMeaning : Type 0
SectionsKeepTheirMeaning =
    (sections : List Declarations) (map_of : Map) (streams : Content) (n : ℕ)
    → meaning_of_sections sections map_of streams n ≡ meaning (map core_of sections) map_of streams n

-- an expression means what its translation means, with the VALOFs that are found in it, at any place
abbrev pub ExpressionsKeepTheirMeaning : Type 0
ExpressionsKeepTheirMeaning =
    (A : Around) (E : Env) (at : Numbers) (e : Exp) (p s : ℕ)
    → (worth A E at e p s).content ≡ sense (context A.place A.call (valofs_from A.place A.call at.valof (valofs_of (found E at e s))))
    (forms E at e).content p s

-- a command means what its translation means, likewise
abbrev pub CommandsKeepTheirMeaning : Type 0
CommandsKeepTheirMeaning =
    (A : Around) (E : Env) (at : Numbers) (c : Command) (p s : ℕ)
    → run_command A E at c p s ≡ perform (context A.place A.call (valofs_from A.place A.call at.valof (valofs_of (found_in_command E at c s))))
    (core_command E at c s) p s

-- The levels of a translation are those of the section. The level after declarations counts the cells of their
-- translation; the sides of an assignment have the levels of the translated addresses; a translated call has as many
-- arguments.
pub record LevelsAreTheSections : Type 0 where
  pub after_declarations :
      (E : Env) (at : Numbers) (s : ℕ) (ds : Declarations) → level_after E at s ds ≡ s + cells_declared (core_declarations E at s ds)
  pub of_sides : (E : Env) (at : Numbers) (xs : Exps) (s : ℕ) → side_levels E xs s ≡ map (λ (f : Forms). side_level f.address s) (forms_of_all E at xs)
  pub of_arguments : (E : Env) (at : Numbers) (es : Exps) → core.count (core_arguments E at es) ≡ count es

-- the frame sizes of the routines among places
abbrev pub frames_of_places : List Valof → List Place → List ℕ
frames_of_places valofs [] = []
frames_of_places valofs (Code r ∷ places) = frame_size valofs r ∷ frames_of_places valofs places
frames_of_places valofs (place ∷ places) = frames_of_places valofs places

-- the frame sizes of the routines that are found, in text order
abbrev pub frames_found : List Thing → List ℕ
frames_found [] = []
frames_found (ARoutine r ∷ things) = frame_of r ∷ frames_found things
frames_found (AValof f ∷ things) = frames_found things
frames_found (Data label d ∷ things) = frames_found things

-- the frame sizes of a translation are those of the section, routine by routine
abbrev pub FramesAreTheSections : Type 0
FramesAreTheSections =
    (ds : Declarations) → frames_of_places (core_of ds).valofs (core_of ds).places ≡ frames_found (found_in_section ds)

-- ---- Places are labelled 1, 2, .. and VALOFs numbered 0, 1, .. in text order

-- the labels of the places that are found
abbrev pub labels_found : List Thing → List ℕ
labels_found [] = []
labels_found (ARoutine r ∷ things) = r.label ∷ labels_found things
labels_found (Data label d ∷ things) = label ∷ labels_found things
labels_found (AValof f ∷ things) = labels_found things

-- the numbers of the VALOFs that are found
abbrev pub numbers_found : List Thing → List ℕ
numbers_found [] = []
numbers_found (AValof f ∷ things) = f.number ∷ numbers_found things
numbers_found (ARoutine r ∷ things) = numbers_found things
numbers_found (Data label d ∷ things) = numbers_found things

-- as many numbers as the list has, counted from n on
abbrev pub counted : ℕ → List ℕ → List ℕ
counted n [] = []
counted n (k ∷ ks) = n ∷ counted (n + 1) ks

-- labels and numbers are exactly these
abbrev pub NumbersRise : Type 0
NumbersRise =
    (ds : Declarations) →
    let labels = labels_found (found_in_section ds) in
    let numbers = numbers_found (found_in_section ds) in
    (labels ≡ counted 1 labels) × (numbers ≡ counted 0 numbers)

-- ---- Neither widths nor faults depend on numbers, and faults not on levels either

-- a meaning with its number replaced by 0
abbrev pub without_number : Meant → Meant
without_number (Static m) = Static 0
without_number (Global n) = Global 0
without_number (Routine m) = Routine 0
without_number (Variable k) = Variable 0
without_number (scope.Label l) = scope.Label 0
without_number m = m

-- the names in scope, with all their numbers replaced by 0
abbrev pub without_numbers : Env → Env
without_numbers E = record E { names = seen_through without_number E.names }

-- the same names in the same order, with meanings that differ at most in their numbers; both inside a routine or both
-- outside
abbrev pub AreAlike : Env → Env → Type 0
AreAlike E F = without_numbers E ≡ without_numbers F

-- widths along the numbering are those of `Frames`, for names that are alike
pub record WidthsAskNoNumbers : Type 0 where
  pub of_expressions : (E F : Env) → AreAlike E F → (at : Numbers) (e : Exp) (s : ℕ) → frames_along.width E at e s ≡ width F e s
  pub of_commands : (E F : Env) → AreAlike E F → (at : Numbers) (c : Command) (s : ℕ) → frames_along.width_of_command E at c s ≡ width_of_command F c s
  pub of_declarations :
      (E F : Env) → AreAlike E F → (at : Numbers) (ds : Declarations) (s : ℕ) → frames_along.width_of_declarations E at ds s ≡ width_of_declarations F ds s
  pub of_routines : (r : FoundRoutine) → frames_along.frame_of r ≡ frame_of r

-- faults along the numbering are those of `Faults`, for names that are alike
pub record FaultsAskNoNumbers : Type 0 where
  pub of_expressions : (c : Bool) (E F : Env) → AreAlike E F → (at : Numbers) (e : Exp) (s : ℕ) → faults_along.fault c E at e s ≡ fault c F e
  pub of_commands : (W : Allowed) (E F : Env) → AreAlike E F → (at : Numbers) (c : Command) (s : ℕ) → faults_along.command_fault W E at c s
      ≡ command_fault W F c
  pub of_declarations :
      (E F : Env) → AreAlike E F → (at : Numbers) (ds : Declarations) (s : ℕ) → faults_along.declarations_fault E at ds s ≡ declarations_fault F ds
  pub of_sections : (ds : Declarations) → faults_along.section_fault ds ≡ section_fault ds

-- the translation of a section without fault, with at most 524,288 definitions, commands and expressions, is well
-- formed
abbrev pub SectionsFit : Type 0
SectionsFit =
    (ds : Declarations) → declarations_size ds ≤ 524288 → section_fault ds ≡ None → is_core (core_of ds) ≡ true

-- if the numbers of a section are words, as the parser's are, those of its translation are words
abbrev pub WordsAreKept : Type 0
WordsAreKept = (ds : Declarations) → DeclarationsHaveWords ds → core_has_words (core_of ds) ≡ true
