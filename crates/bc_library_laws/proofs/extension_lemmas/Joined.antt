-- The laws, from what each routine does.
use Rattle.std.proofs.Common.{◌≡◌, true, false, ⊎_elim, [], ◌∷◌, sym, ap, ◌∙◌, subst, suc, ◌+◌, ◌-◌, ◌*◌, ◌/◌, ◌%◌, length, map, refl, arith}
use Rattle.std.proofs.lemmas.Bool.{cases_lt}
use Rattle.std.proofs.lemmas.Bool.Decides.{nat_tests}
use Rattle.std.specs.Prelude.{negsuc, nat_lt}
use Rattle.std.specs.Fmt.{decimal}
use Rattle.bc_word.specs.Words.{signed}
use Rattle.bc_core.specs.Words.{packed}
use Rattle.bc_core.specs.Map.{placed}
use Rattle.bc_core.specs.Outcome.{Done}
use Rattle.bc_core.specs.Meaning.{calls}
use Rattle.bc_library_laws.specs.Library.{library}
use Rattle.bc_library_laws.specs.Laws.{state, after_writes}
use Rattle.bc_library_laws.proofs.Words.{is_positive, is_negative}
use Rattle.bc_library_laws.proofs.Finding.{has}
use Rattle.bc_library_laws.specs.extension.Extension.{extension}
use Rattle.bc_library_laws.specs.extension.Laws.{UnpackstringUnpacksItsString, WriteoctWritesItsDigits, WritehexWritesItsDigits, CompstringComparesStrings, PackstringPacksItsString, WriteuWritesItsNumber, WritedWritesItsNumber, turns_in_field, in_field, with_words, turns_of_comparison, not_negative}
use Rattle.bc_library_laws.proofs.extension_lemmas.Finding.{has_further}
use Rattle.bc_library_laws.proofs.extension_lemmas.Unpacking.{unpack_does}
use Rattle.bc_library_laws.proofs.extension_lemmas.Octal.{octal_does, octal_none, hex_does, hex_none}
use Rattle.bc_library_laws.proofs.extension_lemmas.Comparing.{compare_does}
use Rattle.bc_library_laws.proofs.extension_lemmas.Packing.{pack_does, bytes_length}
use Rattle.bc_library_laws.proofs.extension_lemmas.Numbers.{unsigned_does, positive_does, negative_does, some_digits, bounds_of}

pub unpackstring_law : UnpackstringUnpacksItsString
unpackstring_law s v bytes cores address further places base m cells streams f n t able given =
    let depth : 4 + 2 * length bytes + n ≡ suc (suc (2 + 2 * length bytes + n)) = omega arith in
    unpack_does _ address further (has (extension ∷ cores) address (further ∷ places) base m) (has_further cores address further places base m) s v bytes cells streams f
    (2 + 2 * length bytes + n) t (4 + 2 * length bytes + n) (4 + 2 * length bytes + t) able given.0 given.1 given.2 depth refl

pub writeoct_law : WriteoctWritesItsDigits
writeoct_law w count word short ne few cores address further places base m cells streams f n t able any = ⊎_elim
    (λ lt. let is : not_negative count ≡ count = (let test : nat_lt count 32768 ≡ true = grind (arith, nat_tests, lt) in rw test refl) in
    let depth : 1 + 2 * count + n ≡ suc (2 * count + n) = omega arith in
    rw is (octal_does _ address further (has (extension ∷ cores) address (further ∷ places) base m) (has_further cores address further places base m) w count cells streams f
    (2 * count + n) (2 * count + n - 1) t (1 + 2 * count + n) (1 + 2 * count + t) able word (omega (arith, few, is)) depth (λ some. omega (arith, some)) refl))
    (λ ge. let is : not_negative count ≡ 0 = (let test : nat_lt count 32768 ≡ false = grind (arith, nat_tests, ge) in rw test refl) in
    rw is (octal_none _ address further (has_further cores address further places base m) w count cells streams f
    n t (1 + 2 * 0 + n) (1 + 2 * 0 + t) able (omega (arith, ge, ne)) short (omega arith) (omega arith))) (cases_lt count 32768)

pub writehex_law : WritehexWritesItsDigits
writehex_law w count word short ne few cores address further places base m cells streams f n t able any = ⊎_elim
    (λ lt. let is : not_negative count ≡ count = (let test : nat_lt count 32768 ≡ true = grind (arith, nat_tests, lt) in rw test refl) in
    let depth : 1 + 2 * count + n ≡ suc (2 * count + n) = omega arith in
    rw is (hex_does _ address further (has (extension ∷ cores) address (further ∷ places) base m) (has_further cores address further places base m) w count cells streams f
    (2 * count + n) (2 * count + n - 1) t (1 + 2 * count + n) (1 + 2 * count + t) able word (omega (arith, few, is)) depth (λ some. omega (arith, some)) refl))
    (λ ge. let is : not_negative count ≡ 0 = (let test : nat_lt count 32768 ≡ false = grind (arith, nat_tests, ge) in rw test refl) in
    rw is (hex_none _ address further (has_further cores address further places base m) w count cells streams f
    n t (1 + 2 * 0 + n) (1 + 2 * 0 + t) able (omega (arith, ge, ne)) short (omega arith) (omega arith))) (cases_lt count 32768)

pub compstring_law : CompstringComparesStrings
compstring_law s t xs ys cores address further places base m cells streams f n u able given =
    let depth : 3 + turns_of_comparison xs ys + n ≡ suc (suc (1 + turns_of_comparison xs ys + n)) = omega arith in
    compare_does _ address further (has (extension ∷ cores) address (further ∷ places) base m) (has_further cores address further places base m) s t xs ys cells streams f
    (1 + turns_of_comparison xs ys + n) u (3 + turns_of_comparison xs ys + n) (3 + turns_of_comparison xs ys + u) able given.0 given.1 depth refl

pub packstring_law : PackstringPacksItsString
packstring_law v s word words count cores address further places base m cells streams f n t able given =
    let depth : 3 + length words / 2 + 2 * length words + n ≡ suc (suc (1 + length words / 2 + 2 * length words + n)) = omega arith in
    pack_does _ address further (has (extension ∷ cores) address (further ∷ places) base m) (has_further cores address further places base m) v s word words cells streams f
    (1 + length words / 2 + 2 * length words + n) t (3 + length words / 2 + 2 * length words + n) (3 + length words / 2 + 2 * length words + t) able count given.0 given.1 given.2 depth refl
    ∙ ap (λ z. Done (length words / 2) (state (with_words s (packed (z ∷ map (λ w. w % 256) words)) cells) streams t)) (sym (bytes_length words))

pub writeu_law : WriteuWritesItsNumber
writeu_law w width word short ne cores address further places base m cells streams f n t able any =
    let some = some_digits w word in
    let depth : 2 + turns_in_field 0 (length (decimal w)) (not_negative width) + n ≡ suc (suc (suc (turns_in_field 0 (length (decimal w)) (not_negative width) + n - 1))) = omega (arith, some) in
    let turns : 2 + turns_in_field 0 (length (decimal w)) (not_negative width) + t ≡ suc (suc (turns_in_field 0 (length (decimal w)) (not_negative width) + t)) = omega arith in
    unsigned_does _ address further (has (extension ∷ cores) address (further ∷ places) base m) (has_further cores address further places base m) w width (not_negative width) cells streams f
    (turns_in_field 0 (length (decimal w)) (not_negative width) + n - 1) t (2 + turns_in_field 0 (length (decimal w)) (not_negative width) + n) (2 + turns_in_field 0 (length (decimal w)) (not_negative width) + t) able word (bounds_of width short ne) depth turns

pub writed_law : WritedWritesItsNumber
writed_law w width word short ne cores address further places base m cells streams f n t able any = ⊎_elim
    (λ lt. let some = some_digits w word in
    rw (is_positive w lt) (positive_does _ address further (has (extension ∷ cores) address (further ∷ places) base m) (has_further cores address further places base m) w width (not_negative width) cells streams f
    (turns_in_field 0 (length (decimal w)) (not_negative width) + n - 1) t (2 + turns_in_field 0 (length (decimal w)) (not_negative width) + n) (2 + turns_in_field 0 (length (decimal w)) (not_negative width) + t) able lt (bounds_of width short ne) (omega (arith, some)) (omega arith)))
    (λ ge. let some = some_digits (suc (65535 - w)) (omega (arith, ge)) in
    let back : 65535 - (65535 - w) ≡ w = omega (arith, word) in
    let minus : signed w ≡ negsuc (65535 - w) = ap signed (sym back) ∙ is_negative (65535 - w) (omega (arith, ge)) in
    rw minus (subst (λ z. calls (placed (library ∷ extension ∷ cores) (address ∷ further ∷ places)) (2 + turns_in_field 1 (length (decimal (suc (65535 - w)))) (not_negative width) + n) (further 25) (z ∷ width ∷ []) f
    (state cells streams (2 + turns_in_field 1 (length (decimal (suc (65535 - w)))) (not_negative width) + t)) ≡ Done 0 (state cells (after_writes (in_field (not_negative width) (45 ∷ decimal (suc (65535 - w)))) streams) t)) back
    (negative_does _ address further (has (extension ∷ cores) address (further ∷ places) base m) (has_further cores address further places base m) (65535 - w) width (not_negative width) cells streams f
    (turns_in_field 1 (length (decimal (suc (65535 - w)))) (not_negative width) + n - 1) t (2 + turns_in_field 1 (length (decimal (suc (65535 - w)))) (not_negative width) + n) (2 + turns_in_field 1 (length (decimal (suc (65535 - w)))) (not_negative width) + t) able (omega (arith, ge)) (bounds_of width short ne) (omega (arith, some)) (omega arith))))
    (cases_lt w 32768)
