use Rattle.std.proofs.Common.{◌≤◌, refl, ap, subst, ◌∙◌, sym, length, arith}
use Rattle.std.proofs.lemmas.List.{length-map}
use Rattle.bc_lex_tokens.specs.Token.{lexeme_of, lexemes_of}
use Rattle.bc_parse_tree.specs.View.{section_view}
use Rattle.bc_core.specs.View.{section}
use Rattle.bc_lex.specs.Files.{files_of}
use Rattle.bc_lex.specs.Tokens.{HasTokens}
use Rattle.bc_build.proofs.Compiling.{is_section, compiled_from, gen_fault}
use Rattle.bc_build.proofs.building.compiled.Goals as goal

pub returns-in-Ok-generate-clause-compiled : goal.returns-in-Ok-generate-clause-compiled
returns-in-Ok-generate-clause-compiled c =
    let e = ap lexemes_of c.as_slice.ensures.value in
    let found = c.in-Ok-resolve.ensures in
    let long = length-map c.as_slice.result.now lexeme_of in
    let size = c.in-Ok-parse.ensures.size in
    compiled_from (files_of c.args.sources.now) c.args.main (lexemes_of c.as_slice.result.now) (section_view c.in-Ok-parse.section) (section c.in-Ok-resolve.core) c.in-Ok-generate.generated.items c.in-Ok-generate.generated.entries.items
    (record {
      lexed = subst (HasTokens (files_of c.args.sources.now) c.args.main) (sym e) c.in-Ok.ensures.tokens;
      few = subst (λ ts. length ts ≤ 60000) (sym e) c.in-Ok.ensures.few;
      only = λ others h. e ∙ c.in-Ok.ensures.only_tokens others h;
      spelled = c.in-Ok-parse.ensures.spelled;
      size = omega (arith, size, long);
      nests = c.in-Ok-parse.ensures.nests;
      read = c.in-Ok-parse.ensures.exact;
    })
    found.0 found.1 c.in-Ok-generate.ensures.items c.in-Ok-generate.ensures.entries c.in-Ok-generate.ensures.labels

pub returns-clause-refused : goal.returns-clause-refused
returns-clause-refused c =
    let e = ap lexemes_of c.as_slice.ensures.value in
    let found = c.in-Ok-resolve.ensures in
    let long = length-map c.as_slice.result.now lexeme_of in
    let size = c.in-Ok-parse.ensures.size in
    let tokens = lexemes_of c.as_slice.result.now in
    let ds = section_view c.in-Ok-parse.section in (
      refl,
      (
        tokens,
        ds,
        is_section (files_of c.args.sources.now) c.args.main tokens ds
            (record {
              lexed = subst (HasTokens (files_of c.args.sources.now) c.args.main) (sym e) c.in-Ok.ensures.tokens;
              few = subst (λ ts. length ts ≤ 60000) (sym e) c.in-Ok.ensures.few;
              only = λ others h. e ∙ c.in-Ok.ensures.only_tokens others h;
              spelled = c.in-Ok-parse.ensures.spelled;
              size = omega (arith, size, long);
              nests = c.in-Ok-parse.ensures.nests;
              read = c.in-Ok-parse.ensures.exact;
            }),
        gen_fault ds (section c.in-Ok-resolve.core) c.in-Err-generate.fault found.0 found.1 c.in-Err-generate.ensures.refused,
      ),
    )
