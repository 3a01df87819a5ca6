-- The mains as resolved sections, and what these mean.
use Rattle.std.proofs.Common.{◌≡◌, ◌∙◌, ℕ, ◌+◌, ◌<◌, ◌≤◌, List, [], ◌∷◌, ◌++◌, map, length, drop, get_or, add-one, drop-cons, refl, sym, ap, subst}
use Rattle.std.specs.Prelude.{None, Result, Ok}
use Rattle.std.proofs.lemmas.List.{map-append, append_assoc, append-nil, drop_all}
use Rattle.bc_machine_defs.specs.Streams.{Content, HoldBytes}
use Rattle.bc_machine_defs.specs.declared.image.Image.{Image}
use Rattle.bc_lex_tokens.specs.Token.{Lexeme}
use Rattle.bc_lex.specs.Files.{File}
use Rattle.bc_lex.specs.Tokens.{HasTokens}
use Rattle.bc_parse.specs.Parsing.{parsed}
use Rattle.bc_parse.specs.declared.error.ParseError.{ParseError}
use Rattle.bc_parse_tree.specs.Tree.{Declarations}
use Rattle.bc_core.specs.Commands.{Core}
use Rattle.bc_core.specs.Meaning.{meaning}
use Rattle.bc_core.specs.Same.{Same}
use Rattle.bc_scope_defs.specs.Translation.{core_of}
use Rattle.bc_scope_defs.specs.Sections.{meaning_of_sections}
use Rattle.bc_scope_laws.specs.Laws.{SectionsKeepTheirMeaning}
use Rattle.bc_build.specs.Parsed.{IsParsed, AreParsed}
use Rattle.bc_build.specs.Built.{IsBuilt}
use Rattle.bc_build.specs.declared.building.Built.{Built}
use Rattle.bc_build.specs.Runs.{addresses, meant, started, RunsAsMeant}
use Rattle.bc_interpret.specs.declared.run.Interpreted.{Interpreted}
use Rattle.bc_interpret.specs.declared.run.Outcome.{Outcome}
use Rattle.bc_interpret.specs.declared.run.Outcome.TheVariants as outs
use Rattle.bc_interpret.specs.Results.{IsResult}
use Rattle.bc_interpret.specs.Interpreted.{NamesFrom}
use Rattle.bc_interpret.proofs.Meanings.{result_from}
use Rattle.bc_interpret_sources.specs.Programs.{IsImageOf, RunsTo}
use Rattle.bc_interpret_sources.specs.Resolving.{IsResolved, AreResolved}

same_section : (x y : Declarations) (r : Result Declarations ParseError) → r ≡ Ok x → r ≡ Ok y → x ≡ y
same_section x y r h k = let e : Ok x ≡ Ok y = sym h ∙ k in cc

-- a main is its translation
pub resolved_from : (files : List File) (main : ℕ) (tokens : List Lexeme) (section : Declarations) (core : Core)
    → ((others : List Lexeme) → HasTokens files main others → tokens ≡ others) → parsed tokens ≡ Ok section → core ≡ core_of section → IsResolved files main core
resolved_from files main tokens section core only read is other o =
    is ∙ ap core_of (same_section section other (parsed o.tokens) (ap parsed (sym (only o.tokens o.lexed)) ∙ read) o.read)

-- the remaining mains begin with the next one
pub next_main : (mains : List ℕ) (n : ℕ) → n < length mains → drop n mains ≡ get_or mains n 0 ∷ drop (n + 1) mains
next_main mains n h = drop-cons mains n 0 h ∙ ap (λ j. get_or mains n 0 ∷ drop j mains) (sym (add-one n))

pub no_main : (mains : List ℕ) (n : ℕ) → length mains ≤ n → drop n mains ≡ []
no_main mains n h = drop_all n mains h

pub resolved_none : (files : List File) (mains : List ℕ) → AreResolved files mains mains []
resolved_none files mains sections h = (sections, h, refl)

more : (files : List File) (main : ℕ) (left : List ℕ) (cores whole : List Core) (core : Core) (rest : List Declarations) → IsResolved files main core
    → AreParsed files (main ∷ left) rest → whole ≡ cores ++ map core_of rest → (rest1 : List Declarations) × AreParsed files left rest1 × (whole ≡ (cores ++ core ∷ []) ++ map core_of rest1)
more files main left cores whole core [] r h e = absurd h
more files main left cores whole core (s ∷ ss) r h e =
    (ss, h.1, e ∙ (ap (λ x. cores ++ x ∷ map core_of ss) (sym (r s h.0)) ∙ sym (append_assoc cores (core ∷ []) (map core_of ss))))

pub resolved_more : (files : List File) (mains : List ℕ) (main : ℕ) (left : List ℕ) (cores : List Core) (core : Core) → AreResolved files mains (main ∷ left) cores → IsResolved files main core → AreResolved files mains left (cores ++ core ∷ [])
resolved_more files mains main left cores core h r sections are_parsed =
    let x = h sections are_parsed in more files main left cores (map core_of sections) core x.0 r x.1 x.2

nothing_left : (files : List File) (cores whole : List Core) (rest : List Declarations) → AreParsed files [] rest → whole ≡ cores ++ map core_of rest → whole ≡ cores
nothing_left files cores whole [] h e = e ∙ append-nil cores
nothing_left files cores whole (s ∷ ss) h e = absurd h

pub all_resolved : (files : List File) (mains : List ℕ) (cores : List Core) → AreResolved files mains [] cores → (sections : List Declarations) → AreParsed files mains sections → map core_of sections ≡ cores
all_resolved files mains cores h sections are_parsed =
    let x = h sections are_parsed in nothing_left files cores (map core_of sections) x.0 x.1 x.2

-- what the translations mean is what the sections mean
pub means : SectionsKeepTheirMeaning → (sections : List Declarations) (cores : List Core) (image : Image) (before after : Content) (turns : ℕ) (o : Outcome) → map core_of sections ≡ cores
    → IsResult (meaning cores (addresses image) before turns) o after → IsResult (meant sections image before turns) o after
means law sections cores image before after turns o e h =
    result_from (meant sections image before turns) (meaning cores (addresses image) before turns) o after
    (law sections (addresses image) before turns ∙ ap (λ cs. meaning cs (addresses image) before turns) e) h

-- a wild access in the run of the translations is one in the run of what the sections are translated to
pub names : (cores translated : List Core) (image : Image) (before : Content) (turns : ℕ) (i : Interpreted) → translated ≡ cores
    → NamesFrom cores (addresses image) before turns i → NamesFrom translated (addresses image) before turns i
names cores translated image before turns i e h = subst (λ cs. NamesFrom cs (addresses image) before turns i) (sym e) h

-- the image's run agrees
pub runs_to : (sections : List Declarations) (image : Image) (before after : Content) (turns : ℕ) (o : Outcome) → RunsAsMeant sections image → HoldBytes before.inputs
    → IsResult (meant sections image before turns) o after → RunsTo image turns before o after
runs_to sections image before after turns (outs.Ended e) r bytes h = subst (λ x. Same x turns (started image before)) h (r.same before bytes turns)
runs_to sections image before after turns outs.Going r bytes h = subst (λ x. Same x turns (started image before)) h (r.same before bytes turns)
runs_to sections image before after turns (outs.Wild c) r bytes h = tt
runs_to sections image before after turns outs.Device r bytes h = tt

-- the image that was built is that of its mains
pub built_is_image : (files : List File) (mains : List ℕ) (built : Built) → IsBuilt files mains built → ((sections : List Declarations) → AreParsed files mains sections → RunsAsMeant sections built.image) → IsImageOf files mains built.image
built_is_image files mains built b r = record { sections = b.sections; parsed = b.parsed; runs = r b.sections b.parsed }
