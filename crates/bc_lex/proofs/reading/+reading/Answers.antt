use Rattle.std.proofs.Common.{◌≡◌, ◌∙◌, refl, sym, length, rules, vec_len}
use Rattle.std.proofs.lemmas.List.{length-map}
use Rattle.std.proofs.lemmas.Result.{err_from_is_err_and}
use Rattle.bc_lex_tokens.specs.Token.{lexeme_of, lexemes_of}
use Rattle.bc_lex.specs.declared.read_file.ReadFile.{ReadFile}
use Rattle.bc_lex.specs.Files.{files_of, text_of}
use Rattle.bc_lex.specs.Lexing.{End, Token, Get, file_to_end, deeper_of}
use Rattle.bc_lex.specs.Repeated.{between}
use Rattle.bc_lex.proofs.Turns.{turn_found, turn_fails, bind_fails, bind_goes_on, deeper_of-zero, deeper_of-suc}
use Rattle.bc_lex.proofs.Repeating.{right_after_push, right_after, right_with, read_is_right}
use Rattle.bc_lex.proofs.reading.+reading.Goals as goal
use Rattle.bc_lex.proofs.reading.+reading.Goals.{read_to_end-in-Token+in_ok-push-in-Token, read_to_end-in-Get+else-this-eq0+in_ok-read_named-in-Get}

pub read_to_end-returns-in_err-find-clause-value : goal.read_to_end-returns-in_err-find-clause-value
read_to_end-returns-in_err-find-clause-value t c =
    let p = err_from_is_err_and c.from_residual.result c.from_residual.ensures.1 in
    let files = files_of c.args.sources.now in
    rw (p.1, p.2) (turn_fails (deeper_of files c.args.this.levels) files c.args.this.file (length (text_of files c.args.this.file)) c.loop.counter c.loop.place (lexemes_of c.loop.tokens.items) _ c.in_err-find.field-0.0 (rw c.text_at-end.ensures at c.loop-test.true) c.loop.invariant.read c.in_err-find.ensures.value)

pub read_to_end-returns-in-End-clause-value : goal.read_to_end-returns-in-End-clause-value
read_to_end-returns-in-End-clause-value t c =
    let files = files_of c.args.sources.now in
    sym (turn_found (deeper_of files c.args.this.levels) files c.args.this.file (length (text_of files c.args.this.file)) c.loop.counter c.loop.place (lexemes_of c.loop.tokens.items) _ End (rw c.text_at-end.ensures at c.loop-test.true) (rw c.in-End.is at c.in_ok-find.ensures.value) c.loop.invariant.read)

pub read_to_end-returns-in_err-push-in-Token-clause-value : goal.read_to_end-returns-in_err-push-in-Token-clause-value
read_to_end-returns-in_err-push-in-Token-clause-value t c =
    let p = err_from_is_err_and c.from_residual-in_err-push-in-Token.result c.from_residual-in_err-push-in-Token.ensures.1 in
    let files = files_of c.args.sources.now in
    rw (p.1, p.2) (bind_fails _ _ _ c.in_err-push-in-Token.field-0.0 (turn_found (deeper_of files c.args.this.levels) files c.args.this.file (length (text_of files c.args.this.file)) c.loop.counter c.loop.place (lexemes_of c.loop.tokens.items) _ (Token (lexeme_of c.in-Token.token)) (rw c.text_at-end.ensures at c.loop-test.true) (rw c.in-Token.is at c.in_ok-find.ensures.value) c.loop.invariant.read) c.in_err-push-in-Token.ensures)

pub read_to_end-returns-then-this-eq0-clause-value : goal.read_to_end-returns-then-this-eq0-clause-value
read_to_end-returns-then-this-eq0-clause-value t c =
    let files = files_of c.args.sources.now in
    let h = turn_found (deeper_of files c.args.this.levels) files c.args.this.file (length (text_of files c.args.this.file)) c.loop.counter c.loop.place (lexemes_of c.loop.tokens.items) _ (Get c.in-Get.start c.in-Get.named c.in-Get.following) (rw c.text_at-end.ensures at c.loop-test.true) (rw c.in-Get.is at c.in_ok-find.ensures.value) c.loop.invariant.read in
    sym (rw (deeper_of-zero files c.args.this.levels c.args.this.file c.in-Get.start c.in-Get.named (lexemes_of c.loop.tokens.items) c.if-this-eq0.true) at h)

pub read_to_end-returns-in_err-read_named-in-Get-clause-value : goal.read_to_end-returns-in_err-read_named-in-Get-clause-value
read_to_end-returns-in_err-read_named-in-Get-clause-value t c =
    let p = err_from_is_err_and c.from_residual-in_err-read_named-in-Get.result c.from_residual-in_err-read_named-in-Get.ensures.1 in
    let files = files_of c.args.sources.now in
    let h = turn_found (deeper_of files c.args.this.levels) files c.args.this.file (length (text_of files c.args.this.file)) c.loop.counter c.loop.place (lexemes_of c.loop.tokens.items) _ (Get c.in-Get.start c.in-Get.named c.in-Get.following) (rw c.text_at-end.ensures at c.loop-test.true) (rw c.in-Get.is at c.in_ok-find.ensures.value) c.loop.invariant.read in
    let s = rw (deeper_of-suc files c.args.this.levels c.args.this.file c.in-Get.start c.in-Get.named (lexemes_of c.loop.tokens.items) c.if-this-eq0.false) at h in
    let whole = file_to_end (deeper_of files c.args.this.levels) files c.args.this.file c.args.this.line (lexemes_of c.args.tokens.now.items) in
    rw (p.1, p.2) (bind_fails _ _ whole c.in_err-read_named-in-Get.field-0.0 s c.in_err-read_named-in-Get.ensures.value)

pub read_to_end-loop-preserved : goal.read_to_end-loop-preserved
read_to_end-loop-preserved t c =
    let files = files_of c.args.sources.now in
    elim c.match-branch-2.branch [
      | read_to_end-in-Token+in_ok-push-in-Token w ↦
          let h = turn_found (deeper_of files c.args.this.levels) files c.args.this.file (length (text_of files c.args.this.file)) c.loop.counter c.loop.place (lexemes_of c.loop.tokens.items) _ (Token (lexeme_of w.in-Token.token)) (rw c.text_at-end.ensures at c.loop-test.true) (rw w.in-Token.is at c.in_ok-find.ensures.value) c.loop.invariant.read in
          let within = rw w.in-Token.is at c.in_ok-find.ensures.within in
          rw (w.place-is, w.tokens-is, w.files-is) record {
            within = within;
            right = right_after_push files (lexeme_of w.in-Token.token) (lexemes_of c.loop.tokens.items) _ _ w.in_ok-push-in-Token.ensures c.loop.invariant.right;
            read = bind_goes_on _ _ _ _ h w.in_ok-push-in-Token.ensures;
          }
      | read_to_end-in-Get+else-this-eq0+in_ok-read_named-in-Get w ↦
          let h = turn_found (deeper_of files c.args.this.levels) files c.args.this.file (length (text_of files c.args.this.file)) c.loop.counter c.loop.place (lexemes_of c.loop.tokens.items) _ (Get w.in-Get.start w.in-Get.named w.in-Get.following) (rw c.text_at-end.ensures at c.loop-test.true) (rw w.in-Get.is at c.in_ok-find.ensures.value) c.loop.invariant.read in
          let s = rw (deeper_of-suc files c.args.this.levels c.args.this.file w.in-Get.start w.in-Get.named (lexemes_of c.loop.tokens.items) w.if-this-eq0.false) at h in
          let within = rw w.in-Get.is at c.in_ok-find.ensures.within in
          rw (w.place-is, w.tokens-is, w.files-is) record {
            within = within.1;
            right = w.in_ok-read_named-in-Get.ensures.right;
            read = bind_goes_on _ _ _ _ s w.in_ok-read_named-in-Get.ensures.value;
          }
    ]

pub read_named-returns-in-Some-clause-right : goal.read_named-returns-in-Some-clause-right
read_named-returns-in-Some-clause-right t c =
    right_after (files_of c.args.sources.now) (between (lexemes_of c.args.tokens.now.items) c.in-Some.read.start c.in-Some.read.end) (lexemes_of c.args.tokens.now.items) (lexemes_of c.push_again.new.tokens.items) c.args.files.now.items c.push_again.result c.push_again.ensures c.requires.right

pub read_named-returns-clause-right : goal.read_named-returns-clause-right
read_named-returns-clause-right t c =
    let files = files_of c.args.sources.now in
    let before = c.args.tokens.now.items in
    let after = c.read_to_end.new.tokens.items in
    let before_len : vec_len c.args.tokens.now ≡ length before = search rules in
    let after_len : vec_len c.read_to_end.new.tokens ≡ length after = search rules in
    let start : c.len-start.result ≡ length (lexemes_of before) = c.len-start.ensures ∙ before_len ∙ sym (length-map before lexeme_of) in
    let end' : c.len-end.result ≡ length (lexemes_of after) = c.len-end.ensures ∙ after_len ∙ sym (length-map after lexeme_of) in
    let this : ReadFile = record { file = c.args.file; levels = c.args.levels; start = c.len-start.result; end = c.len-end.result } in
    let right = read_is_right files c.args.levels c.args.file (lexemes_of before) (lexemes_of after) this c.in_ok-read_to_end.ensures.value refl refl start end' in
    rw c.in_ok-push.ensures.items (right_with files (lexemes_of after) c.read_to_end.new.files.items this c.in_ok-read_to_end.ensures.right right)
