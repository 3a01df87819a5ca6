-- A main that has passed lexer, parser, resolver and generator.
use Rattle.std.proofs.Common.{◌≡◌, ◌∙◌, ℕ, ◌≤◌, List, map, length, Ok, refl, sym, ap, subst, arith}
use Rattle.std.specs.Prelude.{None, Result}
use Rattle.bc_lex_tokens.specs.Token.{Lexeme}
use Rattle.bc_text_items.specs.declared.item.Item.{Item}
use Rattle.bc_rules_defs.specs.View.{entry as entry_view}
use Rattle.bc_rules_defs.specs.declared.entry.Entry as code
use Rattle.bc_parse_tree.specs.Tree.{Declarations}
use Rattle.bc_parse_tree.specs.Size.{declarations_size}
use Rattle.bc_parse_tree.specs.Height.{declarations_height}
use Rattle.bc_lex.specs.Files.{File}
use Rattle.bc_lex.specs.Tokens.{HasTokens}
use Rattle.bc_parse.specs.Parsing.{parsed, TokensSpell}
use Rattle.bc_parse.specs.declared.error.ParseError.{ParseError}
use Rattle.bc_core.specs.Commands.{Core}
use Rattle.bc_scope_defs.specs.Faults.{section_fault}
use Rattle.bc_scope_defs.specs.Translation.{core_of}
use Rattle.bc_gen_defs.specs.Section.{section_items, labels_suffice}
use Rattle.bc_gen_defs.specs.Entries.{section_entries}
use Rattle.bc_gen.specs.Chosen.{coding}
use Rattle.bc_gen.specs.declared.gen_error.GenError.{GenError}
use Rattle.bc_gen.specs.declared.gen_error.GenError.TheVariants.{TooManyLabels, Memory}
use Rattle.bc_build.specs.Refused.{IsGenFault}
use Rattle.bc_build.specs.Parsed.{IsParsed}
use Rattle.bc_build.specs.Compiled.{IsSection}
use Rattle.bc_build.specs.Code.{IsCompiled}

-- tokens and the section that they spell
pub record Parsed (files : List File) (main : ℕ) (tokens : List Lexeme) (section : Declarations) : Type 0 where
  pub lexed : HasTokens files main tokens
  pub few : length tokens ≤ 60000
  pub only : (others : List Lexeme) → HasTokens files main others → tokens ≡ others
  pub spelled : TokensSpell tokens section
  pub size : declarations_size section ≤ length tokens
  pub nests : declarations_height section ≤ 200
  pub read : parsed tokens ≡ Ok section

same_section : (x y : Declarations) (r : Result Declarations ParseError) → r ≡ Ok x → r ≡ Ok y → x ≡ y
same_section x y r h k = let e : Ok x ≡ Ok y = sym h ∙ k in cc

pub is_section : (files : List File) (main : ℕ) (tokens : List Lexeme) (section : Declarations) → Parsed files main tokens section → IsSection files main tokens section
is_section files main tokens section p = let a = p.few in let b = p.size in record { lexed = p.lexed; read = p.read; spelled = p.spelled; small = omega (arith, a, b); nests = p.nests }

only_section : (files : List File) (main : ℕ) (tokens : List Lexeme) (section other : Declarations) → Parsed files main tokens section → IsParsed files main other → other ≡ section
only_section files main tokens section other p o = same_section other section (parsed o.tokens) o.read (ap parsed (sym (p.only o.tokens o.lexed)) ∙ p.read)

pub compiled_from : (files : List File) (main : ℕ) (tokens : List Lexeme) (section : Declarations) (core : Core) (items : List Item) (entries : List code.Entry)
    → Parsed files main tokens section → section_fault section ≡ None → core ≡ core_of section
    → items ≡ section_items coding core → map entry_view entries ≡ section_entries coding core → labels_suffice coding core
    → IsCompiled files main items entries
compiled_from files main tokens section core items entries p faultless is i e l = record {
  section = section;
  accepted = record { tokens = tokens; is_section = is_section files main tokens section p; faultless = faultless; labelled = subst (labels_suffice coding) is l };
  only = λ other o. only_section files main tokens section other p o;
  items_are = i ∙ ap (section_items coding) is;
  entries_are = e ∙ ap (section_entries coding) is;
}

-- a section without code
pub gen_fault : (section : Declarations) (core : Core) (e : GenError) → section_fault section ≡ None → core ≡ core_of section
    → (e ≡ TooManyLabels → ¬ labels_suffice coding core) → IsGenFault section e
gen_fault section core TooManyLabels faultless is h = (faultless, λ l. h refl (subst (labels_suffice coding) (sym is) l))
gen_fault section core Memory faultless is h = faultless
