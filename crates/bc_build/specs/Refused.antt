-- Why a program is not built: the first refusal in the order of the mains, each through lexer, parser, resolver and generator, and then
-- the linker's. This is the order for lack of memory too: no error comes, `Memory` neither, unless every earlier part succeeded.
use Rattle.std.specs.Prelude.{ℕ, ◌≡◌, ◌⊎◌, List, [], ◌∷◌, map, Err, Option, Some, None}
use Rattle.bc_lex_tokens.specs.Token.{Lexeme}
use Rattle.bc_lex.specs.declared.error.LexError.TheVariants as lex_errors
use Rattle.bc_lex.specs.Files.{File}
use Rattle.bc_lex.specs.Tokens.{HasTokens, HasFault}
use Rattle.bc_parse_tree.specs.Tree.{Declarations}
use Rattle.bc_parse.specs.declared.error.ParseError.TheVariants as parse_errors
use Rattle.bc_parse.specs.Parsing.{parsed}
use Rattle.bc_scope_defs.specs.Faults as scopes
use Rattle.bc_scope_defs.specs.Faults.{Fault, section_fault}
use Rattle.bc_scope_defs.specs.Translation.{core_of}
use Rattle.bc_gen_defs.specs.Section.{labels_suffice}
use Rattle.bc_gen.specs.Chosen.{coding}
use Rattle.bc_gen.specs.declared.gen_error.GenError.{GenError}
use Rattle.bc_gen.specs.declared.gen_error.GenError.TheVariants as gen_errors
use Rattle.bc_link.specs.Refusals.{global_twice, too_large}
use Rattle.bc_link.specs.declared.link_error.LinkError.{LinkError}
use Rattle.bc_link.specs.declared.link_error.LinkError.TheVariants as links
use Rattle.bc_text_items.specs.declared.item.Item.{Item}
use Rattle.bc_run.specs.Runs.{with_primitives}
use Rattle.bc_build.specs.Compiled.{IsSection, IsAccepted, AreAccepted}
use Rattle.bc_build.specs.Code.{items_of}
use Rattle.bc_build.specs.declared.build_error.ScopeFault.{ScopeFault}
use Rattle.bc_build.specs.declared.build_error.ScopeFault.TheVariants as faults
use Rattle.bc_build.specs.declared.build_error.BuildError.{BuildError}
use Rattle.bc_build.specs.declared.build_error.BuildError.TheVariants.{Lex, Parse, Scope, Gen, Link, Memory}

-- The error is the due fault of the scopes, unless memory ran out.
abbrev pub IsScopeFault : Option Fault → ScopeFault → Type 0
IsScopeFault due faults.Memory = Unit {0}
IsScopeFault due (faults.Undeclared name) = due ≡ Some (scopes.AnUndeclared name.items)
IsScopeFault due (faults.DeclaredTwice name) = due ≡ Some (scopes.ADeclaredTwice name.items)
IsScopeFault due (faults.DynamicFree name) = due ≡ Some (scopes.ADynamicFree name.items)
IsScopeFault due faults.NotConstant = due ≡ Some scopes.ANotConstant
IsScopeFault due (faults.GlobalNumber name) = due ≡ Some (scopes.AGlobalNumber name.items)
IsScopeFault due faults.NotAssignable = due ≡ Some scopes.ANotAssignable
IsScopeFault due faults.Misplaced = due ≡ Some scopes.AMisplaced
IsScopeFault due faults.FrameTooLarge = due ≡ Some scopes.AFrameTooLarge
IsScopeFault due faults.CaseTwice = due ≡ Some scopes.ACaseTwice
IsScopeFault due faults.TooManyPlaces = due ≡ Some scopes.ATooManyPlaces

-- If no code is generated, the section has no fault of its scopes, and takes too many labels unless memory ran out.
abbrev pub IsGenFault : Declarations → GenError → Type 0
IsGenFault section gen_errors.TooManyLabels = (section_fault section ≡ None) × ¬ labels_suffice coding (core_of section)
IsGenFault section gen_errors.Memory = section_fault section ≡ None

-- The error is the refusal of this main: of a part that all earlier parts let it come to. The `Memory` within an error is that of the part
-- that the error names, and comes only where this part is reached; a plain `Memory` comes only after the parser accepted the main.
abbrev pub IsMainRefusal : List File → ℕ → BuildError → Type 0
IsMainRefusal files main (Lex at e) = (at ≡ main) × ((e ≡ lex_errors.Memory) ⊎ HasFault files main e)
IsMainRefusal files main (Parse at e) = (at ≡ main)
    × ((tokens : List Lexeme) × HasTokens files main tokens × ((e ≡ parse_errors.Memory) ⊎ (parsed tokens ≡ Err e)))
IsMainRefusal files main (Scope at e) = (at ≡ main) × ((tokens : List Lexeme) × (section : Declarations) × IsSection files main tokens section
    × IsScopeFault (section_fault section) e)
IsMainRefusal files main (Gen at e) = (at ≡ main) × ((tokens : List Lexeme) × (section : Declarations) × IsSection files main tokens section
    × IsGenFault section e)
IsMainRefusal files main (Link e) = ⊥
IsMainRefusal files main Memory = (tokens : List Lexeme) × (section : Declarations) × IsSection files main tokens section

-- The error is the refusal of the first main that is refused; all mains before it are accepted.
abbrev pub IsFirstRefusal : List File → List ℕ → BuildError → Type 0
IsFirstRefusal files [] e = ⊥
IsFirstRefusal files (main ∷ mains) e = IsMainRefusal files main e ⊎ ((section : Declarations) × IsAccepted files main section × IsFirstRefusal files mains e)

-- The linker refuses a program for a global that is set twice, else for its size, and never for a label.
abbrev pub IsLinkFault : List (List Item) → LinkError → Type 0
IsLinkFault segments (links.GlobalTwice number) = global_twice segments ≡ Some (links.GlobalTwice number)
IsLinkFault segments links.TooLarge = (global_twice segments ≡ None) × (too_large segments ≡ Some links.TooLarge)
IsLinkFault segments links.Memory = Unit {0}
IsLinkFault segments (links.LabelTwice k label) = ⊥
IsLinkFault segments (links.LabelUnset k label) = ⊥

-- The error is the refusal of the first refused main, or all mains are accepted and it is the linker's. A plain `Memory` is either.
abbrev pub IsRefused : List File → List ℕ → BuildError → Type 0
IsRefused files mains Memory = IsFirstRefusal files mains Memory ⊎ ((sections : List Declarations) × AreAccepted files mains sections)
IsRefused files mains (Link e) = (sections : List Declarations) × AreAccepted files mains sections × IsLinkFault (with_primitives (map items_of sections)) e
IsRefused files mains (Lex at e) = IsFirstRefusal files mains (Lex at e)
IsRefused files mains (Parse at e) = IsFirstRefusal files mains (Parse at e)
IsRefused files mains (Scope at e) = IsFirstRefusal files mains (Scope at e)
IsRefused files mains (Gen at e) = IsFirstRefusal files mains (Gen at e)
