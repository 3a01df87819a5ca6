-- A built program of BLIB and other sections means what the resolved sections mean, which isn't wild.
use Rattle.std.proofs.Common.{ℕ, suc, ◌≡◌, ◌≢◌, ◌+◌, ◌<◌, ◌≤◌, true, List, [], ◌∷◌, ◌++◌, map, length, drop, get_or, add-one, drop-cons, refl, sym, ap, ◌∙◌, subst, arith}
use Rattle.std.proofs.lemmas.List.{append_assoc, append-nil, drop_all}
use Rattle.std.specs.Prelude.{Result as Outcome, Ok}
use Rattle.bc_lex_tokens.specs.Token.{Lexeme}
use Rattle.bc_lex.specs.Files.{File}
use Rattle.bc_lex.specs.Tokens.{HasTokens}
use Rattle.bc_parse.specs.Parsing.{parsed}
use Rattle.bc_parse.specs.declared.error.ParseError.{ParseError}
use Rattle.bc_parse_tree.specs.Tree.{Declarations}
use Rattle.bc_scope_defs.specs.Translation.{core_of}
use Rattle.bc_scope_laws.proofs.Program.{sections_keep}
use Rattle.bc_core.specs.Commands.{Core}
use Rattle.bc_core.specs.Map.{Map, IsMap}
use Rattle.bc_core.specs.Meaning.{Result, Ended, Going, Wild, meaning}
use Rattle.bc_core.specs.Same.{Same}
use Rattle.bc_machine_defs.specs.State.{State}
use Rattle.bc_machine_defs.specs.Streams.{Content, HoldBytes}
use Rattle.bc_machine_defs.specs.declared.image.Image.{Image}
use Rattle.bc_library_laws.specs.Library.{library}
use Rattle.bc_library_laws.specs.Texts.{header_file, source_file}
use Rattle.bc_library_laws.proofs.Built.{library_of}
use Rattle.bc_tame.specs.Programs.{Rooms, is_tame}
use Rattle.bc_tame.proofs.Beginning.{tame_is_not_wild}
use Rattle.bc_build.specs.Parsed.{IsParsed, AreParsed}
use Rattle.bc_build.specs.Runs.{RunsAsMeant, addresses, started}
use Rattle.bc_tame_built.specs.Laws.{Does, EveryRunIsMeant, TamePrograms, IsResolved, AreTranslated, AreResolved, RunsAsMeantWithLibrary}

-- the library has addresses
by_places : (cores : List Core) (rooms : Rooms) → is_tame cores rooms ≡ true → (base : ℕ) (ps : List (ℕ → ℕ)) → IsMap (library ∷ cores) (record { places = ps; stack_base = base })
    → base + 2 + rooms.room ≤ 65536 → (streams : Content) → HoldBytes streams.inputs → (n : ℕ) → meaning (library ∷ cores) (record { places = ps; stack_base = base }) streams n ≢ Wild
by_places cores rooms tame base [] m fits streams held n = let e : suc (length cores) ≡ 0 = m.named in absurd (omega (arith, e))
by_places cores rooms tame base (p ∷ ps) m fits streams held n = tame_is_not_wild cores rooms tame p ps base m fits streams held n

does : (r : Result) (n : ℕ) (s : State) → r ≢ Wild → Same r n s → Does r n s
does (Ended output ending) n s h same = same
does (Going output) n s h same = same
does Wild n s h same = h refl

pub tame_programs : TamePrograms
tame_programs rest mains blib owns image rooms are_parsed runs tame fits streams holds n =
    let is : core_of blib ≡ library = library_of rest are_parsed.0.tokens blib are_parsed.0.lexed are_parsed.0.read in
    let m : IsMap (library ∷ map core_of owns) (addresses image) = subst (λ (core : Core). IsMap (core ∷ map core_of owns) (addresses image)) is runs.is_map in
    let means = sections_keep (blib ∷ owns) (addresses image) streams n ∙ ap (λ (core : Core). meaning (core ∷ map core_of owns) (addresses image) streams n) is in
    does _ n (started image streams) (λ e. by_places (map core_of owns) rooms tame image.stack_base (addresses image).places m fits streams holds n (sym means ∙ e)) (runs.same streams holds n)

same_section : (x y : Declarations) (r : Outcome Declarations ParseError) → r ≡ Ok x → r ≡ Ok y → x ≡ y
same_section x y r h k = let e : Ok x ≡ Ok y = sym h ∙ k in cc

-- a main is its translation
pub resolved_from : (files : List File) (main : ℕ) (tokens : List Lexeme) (section : Declarations) (core : Core)
    → ((others : List Lexeme) → HasTokens files main others → tokens ≡ others) → parsed tokens ≡ Ok section → core ≡ core_of section → IsResolved files main core
resolved_from files main tokens section core only read is other o =
    is ∙ ap core_of (same_section section other (parsed o.tokens) (ap parsed (sym (only o.tokens o.lexed)) ∙ read) o.read)

-- the remaining mains begin with the next one
pub next_main : (mains : List ℕ) (n : ℕ) → n < length mains → drop n mains ≡ get_or mains n 0 ∷ drop (n + 1) mains
next_main mains n h = drop-cons mains n 0 h ∙ ap (λ j. get_or mains n 0 ∷ drop j mains) (sym (add-one n))

pub no_main : (mains : List ℕ) (n : ℕ) → length mains ≤ n → drop n mains ≡ []
no_main mains n h = drop_all n mains h

pub resolved_none : (files : List File) (mains : List ℕ) → AreResolved files mains mains []
resolved_none files mains sections h = (sections, h, refl)

more : (files : List File) (main : ℕ) (left : List ℕ) (cores whole : List Core) (core : Core) (rest : List Declarations) → IsResolved files main core
    → AreParsed files (main ∷ left) rest → whole ≡ cores ++ map core_of rest → (others : List Declarations) × AreParsed files left others × (whole ≡ (cores ++ core ∷ []) ++ map core_of others)
more files main left cores whole core [] r h e = absurd h
more files main left cores whole core (s ∷ ss) r h e =
    (ss, h.1, e ∙ (ap (λ x. cores ++ x ∷ map core_of ss) (sym (r s h.0)) ∙ sym (append_assoc cores (core ∷ []) (map core_of ss))))

pub resolved_more : (files : List File) (mains : List ℕ) (main : ℕ) (left : List ℕ) (cores : List Core) (core : Core) → AreResolved files mains (main ∷ left) cores → IsResolved files main core → AreResolved files mains left (cores ++ core ∷ [])
resolved_more files mains main left cores core h r sections are_parsed =
    let x = h sections are_parsed in more files main left cores (map core_of sections) core x.0 r x.1 x.2

nothing_left : (files : List File) (cores whole : List Core) (rest : List Declarations) → AreParsed files [] rest → whole ≡ cores ++ map core_of rest → whole ≡ cores
nothing_left files cores whole [] h e = e ∙ append-nil cores
nothing_left files cores whole (s ∷ ss) h e = absurd h

pub all_translated : (files : List File) (mains : List ℕ) (cores : List Core) → AreResolved files mains [] cores → AreTranslated files mains cores
all_translated files mains cores h sections are_parsed =
    let x = h sections are_parsed in nothing_left files cores (map core_of sections) x.0 x.1 x.2

-- the first main has a section
by_sections : (rest : List File) (mains : List ℕ) (image : Image) (cores : List Core) (rooms : Rooms) → AreTranslated (header_file ∷ source_file ∷ rest) mains cores → is_tame cores rooms ≡ true
    → image.stack_base + 2 + rooms.room ≤ 65536 → (sections : List Declarations) → AreParsed (header_file ∷ source_file ∷ rest) (1 ∷ mains) sections
    → RunsAsMeant sections image → EveryRunIsMeant sections image
by_sections rest mains image cores rooms translated tame fits [] are_parsed runs = absurd are_parsed
by_sections rest mains image cores rooms translated tame fits (blib ∷ owns) are_parsed runs =
    let own_tame : is_tame (map core_of owns) rooms ≡ true = subst (λ (z : List Core). is_tame z rooms ≡ true) (sym (translated owns are_parsed.1)) tame in
    tame_programs rest mains blib owns image rooms are_parsed runs own_tame fits

-- mains after BLIB whose resolved sections are tame
pub found_tame : (files : List File) (mains owns : List ℕ) (image : Image) (cores : List Core) (rooms : Rooms) → mains ≡ 1 ∷ owns → AreTranslated files owns cores
    → is_tame cores rooms ≡ true → image.stack_base + 2 + rooms.room ≤ 65536 → RunsAsMeantWithLibrary files mains image
found_tame files mains owns image cores rooms are translated tame fits rest sections e are_parsed runs =
    by_sections rest owns image cores rooms (subst (λ fs. AreTranslated fs owns cores) e translated) tame fits sections
    (subst (λ fs. AreParsed fs (1 ∷ owns) sections) e (subst (λ ms. AreParsed files ms sections) are are_parsed)) runs
