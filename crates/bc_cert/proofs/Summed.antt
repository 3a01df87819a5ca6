-- The sums of entries that were dropped.
use Rattle.std.proofs.Common.{◌≡◌, ℕ, ◌+◌, ◌-◌, ◌^◌, ◌≤◌, List, [], ◌∷◌, ◌++◌, Option, Some, None, Result, Ok, Err, length, take, min, refl, ap, sym, ◌∙◌, subst, arith, append-nil, length-append}
use Rattle.std.specs.Prelude.{IfOk}
use Rattle.std.specs.Io.KnownBytes.{Consumes, IsAtEnd}
use Rattle.bc_cert_defs.specs.declared.check_fault.CheckFault.{CheckFault}
use Rattle.bc_cert_defs.specs.Verdict.{Judged, Verdict}
use Rattle.bc_cert_read.specs.Stacks.{◌>>=◌}
use Rattle.bc_cert_read.specs.TreeView.{Fails, Gives}
use Rattle.bc_cert_laws.specs.Judging.{State, Stage, the_header, between, nodes, code as code_stage, the_end, start, feed_from, finished, finished_at}
use Rattle.bc_cert.specs.Answer.{IsFault, AreSaid, IsSumsAnswer}
use Rattle.bc_cert.specs.declared.checker.Checker.{Checker}
use Rattle.bc_cert.specs.declared.sums.Sums.{Sums}
use Rattle.bc_cert.specs.Answer.{sum_of}
use Rattle.bc_cert.specs.View.{own, fed, table_alone, following, fed_after, gone, summed}
use Rattle.bc_cert.proofs.Steps.{fed_more, consumes_more, fails_more, fault_given, verdict_given, end_given}
use Rattle.bc_cert.proofs.Apart.{fed_apart, fails_apart, sum_append}

capped : (n : ℕ) (js : List Judged) → n ≤ 2 ^ 64 - 1 → summed n js ≡ min (n + sum_of js) (2 ^ 64 - 1)
capped n [] h = at_none n h where
  at_none : (n : ℕ) → n ≤ 2 ^ 64 - 1 → n ≡ min (n + 0) (2 ^ 64 - 1)
  at_none n h = omega (arith, h)
capped n (j ∷ js) h = capped (min (n + j.words) (2 ^ 64 - 1)) js (below (n + j.words)) ∙ again n j.words (sum_of js) where
  below : (n : ℕ) → min n (2 ^ 64 - 1) ≤ 2 ^ 64 - 1
  below n = omega arith

  again : (a b c : ℕ) → min (min (a + b) (2 ^ 64 - 1) + c) (2 ^ 64 - 1) ≡ min (a + (b + c)) (2 ^ 64 - 1)
  again a b c = omega arith

no_words : (n : ℕ) → n ≡ 0 → n ≡ min 0 (2 ^ 64 - 1)
no_words n h = omega (arith, h)

-- these bytes lead to this state after this number of entries with these words altogether
pub record Found (known left : Option (List ℕ)) (s : State × List ℕ) (passed words : ℕ) : Type 0 where
  pub bytes : List ℕ
  pub entries : List Judged
  pub led : feed_from bytes (start, []) ≡ Ok (fed_after entries s)
  pub many : length entries ≡ passed
  pub sum : words ≡ min (sum_of entries) (2 ^ 64 - 1)
  pub consumed : Consumes known left bytes

consumes_none : (known : Option (List ℕ)) → Consumes known known []
consumes_none None = tt
consumes_none (Some xs) = refl

pub found_none : (known : Option (List ℕ)) (s : State × List ℕ) (passed words : ℕ) → s ≡ (start, []) → passed ≡ 0 → words ≡ 0 → Found known known s passed words
found_none known s passed words h i j = record {
  bytes = [];
  entries = [];
  led = ap (λ x. Ok (fed_after [] x)) (sym h);
  many = sym i;
  sum = no_words words j;
  consumed = consumes_none known;
}

-- the same with the entries of one more piece, which are dropped afterwards
pub found_more : (known middle left : Option (List ℕ)) (s t : State × List ℕ) (passed words more : ℕ) (now : List ℕ) (kept count : ℕ) → kept ≡ count → Found known middle s passed words → Consumes middle left (take count now) → s.0.entries ≡ []
    → feed_from (take kept now) (fed_after (gone passed) s) ≡ Ok (fed_after (gone passed) t) → more ≡ summed words t.0.entries → Found known left (record t.0 { entries = [] }, t.1) (passed + length t.0.entries) more
found_more known middle left s t passed words more now kept count same f taken none e sum =
    let apart = fed_apart passed f.entries (take kept now) s t f.many e in
    let long = length-append f.entries t.0.entries in
    let many = f.many in
    let sums = sum_append f.entries t.0.entries in
    let before = f.sum in
    let bound : words ≤ 2 ^ 64 - 1 = omega (arith, before) in
    let added : more ≡ min (words + sum_of t.0.entries) (2 ^ 64 - 1) = sum ∙ capped words t.0.entries bound in
    record {
      bytes = f.bytes ++ take kept now;
      entries = f.entries ++ t.0.entries;
      led = fed_more f.bytes (take kept now) (start, []) (fed_after f.entries s) (fed_after f.entries t) f.led apart.0 ∙ ap (λ es. Ok (record t.0 { entries = es }, t.1)) (sym (append-nil (f.entries ++ t.0.entries)));
      many = omega (arith, long, many);
      sum = omega (arith, added, before, sums);
      consumed = consumes_more known middle left f.bytes now kept count same f.consumed taken;
    }

pub found_few : (s t : State × List ℕ) (passed : ℕ) (known middle : Option (List ℕ)) (words : ℕ) (bs : List ℕ) → Found known middle s passed words → s.0.entries ≡ [] → feed_from bs (fed_after (gone passed) s) ≡ Ok (fed_after (gone passed) t) → length t.0.entries ≤ length bs
found_few s t passed known middle words bs f none e = let few = (fed_apart passed f.entries bs s t f.many e).1 in let empty : length s.0.entries ≡ 0 = ap length none in omega (arith, few, empty)

pub found_fault : (known middle left : Option (List ℕ)) (s : State × List ℕ) (passed words : ℕ) (now : List ℕ) (kept count : ℕ) (f : CheckFault) → kept ≤ count → Found known middle s passed words → Consumes middle left (take count now) → Fails f (feed_from (take kept now) (fed_after (gone passed) s)) → IsFault known f
found_fault known middle left s passed words now kept count f small d taken bad =
    fault_given known middle left d.bytes now kept count (fed_after d.entries s) f small d.consumed taken d.led (fails_apart passed d.entries (take kept now) s f d.many bad)

pub found_moved : (known left : Option (List ℕ)) (s t : State × List ℕ) (p q words : ℕ) → Found known left s p words → s ≡ t → p ≡ q → Found known left t q words
found_moved known left s t p q words f h i = subst (λ n. Found known left t n words) i (subst (λ x. Found known left x p words) h f)

-- at the end of the bytes
abbrev joined : List Judged → Result Verdict CheckFault → Result Verdict CheckFault
joined js r = r >>= (λ v. Ok (record { table = v.table; entries = js ++ v.entries }))

finished_joined : (js : List Judged) (g : Stage) (line : List ℕ) (st : State) → finished_at g (following js st, line) ≡ joined js (finished_at g (st, line))
finished_joined js the_header line st = refl
finished_joined js between line st = refl
finished_joined js (nodes h) line st = refl
finished_joined js (code_stage h r) line st = refl
finished_joined js the_end [] st = refl
finished_joined js the_end (b ∷ bs) st = refl

found_verdict : (known middle left : Option (List ℕ)) (s : State × List ℕ) (passed words : ℕ) (now : List ℕ) (count : ℕ) (x : Sums) → count ≡ 0 → Found known middle s passed words → Consumes middle left (take count now) → IsAtEnd left → s.0.entries ≡ []
    → finished s ≡ Ok (table_alone x s.0) → x.entries ≡ passed → x.words ≡ words → AreSaid known x
found_verdict known middle left s passed words now count x none d taken end no_more h many sum =
    let all : finished (fed_after d.entries s) ≡ Ok (record { table = x.table; entries = d.entries ++ s.0.entries }) = finished_joined d.entries s.0.stage s.1 s.0 ∙ ap (λ r. joined d.entries r) h in
    let same : d.entries ++ s.0.entries ≡ d.entries = ap (λ es. d.entries ++ es) no_more ∙ append-nil d.entries in (
      record { table = x.table; entries = d.entries },
      verdict_given known middle left d.bytes now count (fed_after d.entries s) (record { table = x.table; entries = d.entries }) none d.consumed taken end d.led (all ∙ ap (λ es. Ok (record { table = x.table; entries = es })) same),
      record { table = refl; entries = many ∙ sym d.many; words = sum ∙ d.sum },
    )

found_end : (known middle left : Option (List ℕ)) (s : State × List ℕ) (passed words : ℕ) (now : List ℕ) (count : ℕ) (f : CheckFault) → count ≡ 0 → Found known middle s passed words → Consumes middle left (take count now) → IsAtEnd left → Fails f (finished s) → IsFault known f
found_end known middle left s passed words now count f none d taken end bad =
    end_given known middle left d.bytes now count (fed_after d.entries s) f none d.consumed taken end d.led
    (subst (λ r. Fails f r) (sym (finished_joined d.entries s.0.stage s.1 s.0)) (fails_more f (finished s) (λ v. Ok (record { table = v.table; entries = d.entries ++ v.entries })) bad))

pub found_answer : (known middle left : Option (List ℕ)) (s : State × List ℕ) (passed words : ℕ) (now : List ℕ) (count : ℕ) (r : Result Sums CheckFault) → count ≡ 0 → Found known middle s passed words → Consumes middle left (take count now) → IsAtEnd left → s.0.entries ≡ []
    → Gives (λ x. table_alone x s.0) r (finished s) → IfOk r (λ x. (x.entries ≡ passed) × (x.words ≡ words)) → IsSumsAnswer known r
found_answer known middle left s passed words now count (Ok x) none d taken end no_more h sums = found_verdict known middle left s passed words now count x none d taken end no_more h sums.0 sums.1
found_answer known middle left s passed words now count (Err f) none d taken end no_more h sums = found_end known middle left s passed words now count f none d taken end h

-- if none was dropped, the kept entries are all entries
pub own_is_fed : (c : Checker) → c.passed ≡ 0 → (own c, c.line.items) ≡ fed c
own_is_fed c h = ap (λ n. (following (gone n) (own c), c.line.items)) (sym h)
