-- Feeding bytes: line by line is the same as byte by byte, and it doesn't matter how the bytes are cut into pieces.
use Rattle.std.proofs.Common.{◌≡◌, ℕ, ◌≤◌, ◌==◌, Bool, true, false, cond, List, [], ◌∷◌, ◌++◌, Option, Some, None, Result, Ok, Err, take, drop, refl, ap, sym, ◌∙◌, subst, append_assoc, append-nil}
use Rattle.std.specs.Option.{IfSome}
use Rattle.std.specs.Io.KnownBytes.{Consumes, IsAtEnd}
use Rattle.std.proofs.lemmas.List.{take-append-drop, take-take}
use Rattle.bc_cert_defs.specs.declared.check_fault.CheckFault.{CheckFault}
use Rattle.bc_cert_defs.specs.declared.check_fault.CheckFault.TheVariants as faults
use Rattle.bc_cert_defs.specs.Verdict.{Verdict}
use Rattle.bc_cert_read.specs.declared.position.Position.{Position}
use Rattle.bc_cert_read.specs.Fields.{Cut, cut, longer}
use Rattle.bc_cert_read.specs.Stacks.{◌>>=◌}
use Rattle.bc_cert_defs.specs.declared.verdict.Verdict as code
use Rattle.bc_cert_defs.specs.View.{verdict}
use Rattle.bc_cert_read.specs.TreeView.{Fails, Gives}
use Rattle.bc_cert_laws.specs.Judging.{State, between, start, step_at, between_step, place_of, counted, line_step, byte_step, feed_from, finished, judged}
use Rattle.bc_cert_laws.proofs.Whole.{judged_says, judged_lacks}
use Rattle.bc_cert.specs.View.{whole_line}
use Rattle.bc_cert.specs.Answer.{IsSaid, IsLacking, IsFault, IsAnswer}

pub between_line : (line : List ℕ) (st : State) (p : Position) → st.stage ≡ between → p ≡ place_of (counted st) → between_step line p (counted st) ≡ line_step line st
between_line line st p h e = ap (λ q. between_step line q (counted st)) e ∙ ap (λ s. step_at s line (place_of (counted st)) (counted st)) (sym h)

bind_grouped : {A B C : Type 0} (r : Result A CheckFault) (f : A → Result B CheckFault) (g : B → Result C CheckFault) → (r >>= f) >>= g ≡ r >>= (λ x. f x >>= g)
bind_grouped (Ok x) f g = refl
bind_grouped (Err e) f g = refl

bind_along : {A B : Type 0} (r : Result A CheckFault) (f g : A → Result B CheckFault) → ((x : A) → f x ≡ g x) → r >>= f ≡ r >>= g
bind_along (Ok x) f g h = h x
bind_along (Err e) f g h = refl

-- it doesn't matter where bytes are cut
pub feed_append : (xs ys : List ℕ) (s : State × List ℕ) → feed_from (xs ++ ys) s ≡ feed_from xs s >>= (λ t. feed_from ys t)
feed_append [] ys s = refl
feed_append (x ∷ xs) ys s =
    bind_along (byte_step x s) (λ t. feed_from (xs ++ ys) t) (λ t. feed_from xs t >>= (λ u. feed_from ys u)) (λ t. feed_append xs ys t)
    ∙ sym (bind_grouped (byte_step x s) (λ t. feed_from xs t) (λ t. feed_from ys t))

pub fed_more : (xs ys : List ℕ) (s t u : State × List ℕ) → feed_from xs s ≡ Ok t → feed_from ys t ≡ Ok u → feed_from (xs ++ ys) s ≡ Ok u
fed_more xs ys s t u h i = feed_append xs ys s ∙ ap (λ r. r >>= (λ x. feed_from ys x)) h ∙ i

pub fed_fault : (xs ys : List ℕ) (s t : State × List ℕ) (f : CheckFault) → feed_from xs s ≡ Ok t → feed_from ys t ≡ Err f → feed_from (xs ++ ys) s ≡ Err f
fed_fault xs ys s t f h i = feed_append xs ys s ∙ ap (λ r. r >>= (λ x. feed_from ys x)) h ∙ i

-- a fault of a line remains, whatever follows
fault_stays : (xs more : List ℕ) (f : CheckFault) → feed_from xs (start, []) ≡ Err f → judged (xs ++ more) ≡ Err f
fault_stays xs more f h = ap (λ r. r >>= (λ t. finished t)) (feed_append xs more (start, []) ∙ ap (λ r. r >>= (λ x. feed_from more x)) h)

fault_itself : (xs : List ℕ) (f : CheckFault) → feed_from xs (start, []) ≡ Err f → judged xs ≡ Err f
fault_itself xs f h = ap (λ r. r >>= (λ t. finished t)) h

lacks_known : (known : Option (List ℕ)) (xs : List ℕ) (f : CheckFault) → IfSome known (λ k. (zs : List ℕ) × (k ≡ xs ++ zs)) → feed_from xs (start, []) ≡ Err f → IsLacking known f
lacks_known None xs f g h = (xs, tt, judged_lacks xs f (fault_itself xs f h))
lacks_known (Some k) xs f g h = (xs, judged_lacks k f (subst (λ q. judged q ≡ Err f) (sym g.1) (fault_stays xs g.0 f h)), judged_lacks xs f (fault_itself xs f h))

-- what was consumed before, with a part of what is consumed now
pub consumes_more : (known middle left : Option (List ℕ)) (bytes now : List ℕ) (kept count : ℕ) → kept ≡ count → Consumes known middle bytes → Consumes middle left (take count now) → Consumes known left (bytes ++ take kept now)
consumes_more None middle left bytes now kept count same h e = tt
consumes_more (Some xs) None left bytes now kept count same h e = absurd h
consumes_more (Some xs) (Some ys) None bytes now kept count same h e = absurd e
consumes_more (Some xs) (Some ys) (Some zs) bytes now kept count same h e =
    h ∙ ap (λ more. bytes ++ more) (e ∙ ap (λ n. take n now ++ zs) (sym same)) ∙ sym (append_assoc bytes (take kept now) zs)

begins_part : (known middle left : Option (List ℕ)) (bytes now : List ℕ) (kept count : ℕ) → kept ≤ count → Consumes known middle bytes → Consumes middle left (take count now) → IfSome known (λ k. (zs : List ℕ) × (k ≡ (bytes ++ take kept now) ++ zs))
begins_part None middle left bytes now kept count small h e = tt
begins_part (Some xs) None left bytes now kept count small h e = absurd h
begins_part (Some xs) (Some ys) None bytes now kept count small h e = absurd e
begins_part (Some xs) (Some ys) (Some zs) bytes now kept count small h e =
    let part : take count now ≡ take kept now ++ drop kept (take count now) = sym (take-append-drop kept (take count now)) ∙ ap (λ front. front ++ drop kept (take count now)) (take-take kept count now small) in
    (drop kept (take count now) ++ zs, h ∙ ap (λ more. bytes ++ more) (e ∙ ap (λ front. front ++ zs) part ∙ append_assoc (take kept now) (drop kept (take count now)) zs) ∙ sym (append_assoc bytes (take kept now) (drop kept (take count now) ++ zs)))

-- a fault in what was consumed
pub fault_given : (known middle left : Option (List ℕ)) (bytes now : List ℕ) (kept count : ℕ) (t : State × List ℕ) (f : CheckFault) → kept ≤ count → Consumes known middle bytes → Consumes middle left (take count now) → feed_from bytes (start, []) ≡ Ok t → Fails f (feed_from (take kept now) t) → IsFault known f
fault_given known middle left bytes now kept count t f small h e ok bad = by_fault f bad where
  found : (g : CheckFault) → feed_from (take kept now) t ≡ Err g → IsLacking known g
  found g k = lacks_known known (bytes ++ take kept now) g (begins_part known middle left bytes now kept count small h e) (fed_fault bytes (take kept now) (start, []) t g ok k)

  by_fault : (g : CheckFault) → Fails g (feed_from (take kept now) t) → IsFault known g
  by_fault faults.Header k = found faults.Header k
  by_fault (faults.Line l) k = found (faults.Line l) k
  by_fault faults.Truncated k = found faults.Truncated k
  by_fault (faults.WrongCost i n) k = found (faults.WrongCost i n) k
  by_fault (faults.WrongRule i n) k = found (faults.WrongRule i n) k
  by_fault (faults.WrongCode i) k = found (faults.WrongCode i) k
  by_fault (faults.WrongWords i) k = found (faults.WrongWords i) k
  by_fault (faults.TooDeep l) k = found (faults.TooDeep l) k
  by_fault faults.Read k = tt
  by_fault faults.Memory k = tt

-- at the end all was consumed
all_given : (known middle left : Option (List ℕ)) (bytes now : List ℕ) (count : ℕ) → count ≡ 0 → Consumes known middle bytes → Consumes middle left (take count now) → IsAtEnd left → IfSome known (λ xs. xs ≡ bytes)
all_given None middle left bytes now count none h e end = tt
all_given (Some xs) None left bytes now count none h e end = absurd h
all_given (Some xs) (Some ys) None bytes now count none h e end = absurd e
all_given (Some xs) (Some ys) (Some zs) bytes now count none h e end =
    let empty : take count now ≡ [] = ap (λ n. take n now) none in
    h ∙ ap (λ more. bytes ++ more) (e ∙ ap (λ front. front ++ zs) empty ∙ end) ∙ append-nil bytes

judged_all : (bytes : List ℕ) (t : State × List ℕ) (r : Result Verdict CheckFault) → feed_from bytes (start, []) ≡ Ok t → finished t ≡ r → judged bytes ≡ r
judged_all bytes t r h e = ap (λ q. q >>= (λ u. finished u)) h ∙ e

lacks_all : (known : Option (List ℕ)) (bytes : List ℕ) (f : CheckFault) → IfSome known (λ xs. xs ≡ bytes) → judged bytes ≡ Err f → IsLacking known f
lacks_all None bytes f h e = (bytes, tt, judged_lacks bytes f e)
lacks_all (Some xs) bytes f h e = (bytes, judged_lacks xs f (ap judged h ∙ e), judged_lacks bytes f e)

pub verdict_given : (known middle left : Option (List ℕ)) (bytes now : List ℕ) (count : ℕ) (t : State × List ℕ) (v : Verdict) → count ≡ 0 → Consumes known middle bytes → Consumes middle left (take count now) → IsAtEnd left → feed_from bytes (start, []) ≡ Ok t → finished t ≡ Ok v → IsSaid known v
verdict_given known middle left bytes now count t v none h e end ok done = (bytes, all_given known middle left bytes now count none h e end, judged_says bytes v (judged_all bytes t (Ok v) ok done))

pub end_given : (known middle left : Option (List ℕ)) (bytes now : List ℕ) (count : ℕ) (t : State × List ℕ) (f : CheckFault) → count ≡ 0 → Consumes known middle bytes → Consumes middle left (take count now) → IsAtEnd left → feed_from bytes (start, []) ≡ Ok t → Fails f (finished t) → IsFault known f
end_given known middle left bytes now count t f none h e end ok bad = by_fault f bad where
  found : (g : CheckFault) → finished t ≡ Err g → IsLacking known g
  found g k = lacks_all known bytes g (all_given known middle left bytes now count none h e end) (judged_all bytes t (Err g) ok k)

  by_fault : (g : CheckFault) → Fails g (finished t) → IsFault known g
  by_fault faults.Header k = found faults.Header k
  by_fault (faults.Line l) k = found (faults.Line l) k
  by_fault faults.Truncated k = found faults.Truncated k
  by_fault (faults.WrongCost i n) k = found (faults.WrongCost i n) k
  by_fault (faults.WrongRule i n) k = found (faults.WrongRule i n) k
  by_fault (faults.WrongCode i) k = found (faults.WrongCode i) k
  by_fault (faults.WrongWords i) k = found (faults.WrongWords i) k
  by_fault (faults.TooDeep l) k = found (faults.TooDeep l) k
  by_fault faults.Read k = tt
  by_fault faults.Memory k = tt

pub answer_at_end : (known middle left : Option (List ℕ)) (bytes now : List ℕ) (count : ℕ) (t : State × List ℕ) (r : Result code.Verdict CheckFault) → count ≡ 0 → Consumes known middle bytes → Consumes middle left (take count now) → IsAtEnd left → feed_from bytes (start, []) ≡ Ok t → Gives verdict r (finished t) → IsAnswer known r
answer_at_end known middle left bytes now count t (Ok v) none h e end ok done = verdict_given known middle left bytes now count t (verdict v) none h e end ok done
answer_at_end known middle left bytes now count t (Err f) none h e end ok done = end_given known middle left bytes now count t f none h e end ok done

-- bytes up to the first end of a line, and those after it
abbrev after_cut : State × List ℕ → List ℕ → Option (List ℕ) → Result (State × List ℕ) CheckFault
after_cut s first None = Ok (s.0, s.1 ++ first)
after_cut s first (Some more) = whole_line (s.1 ++ first) s.0 >>= (λ t. feed_from more t)

after_one : (s : State × List ℕ) (b : ℕ) (first : List ℕ) (o : Option (List ℕ)) → after_cut (s.0, s.1 ++ b ∷ []) first o ≡ after_cut s (b ∷ first) o
after_one s b first None = ap (λ l. Ok (s.0, l)) (append_assoc s.1 (b ∷ []) first)
after_one s b first (Some more) = ap (λ l. whole_line l s.0 >>= (λ t. feed_from more t)) (append_assoc s.1 (b ∷ []) first)

abbrev cut_again : ℕ → List ℕ → Bool → Cut
cut_again b bs t = cond t (record { first = []; following = Some bs }) (longer (b ∷ []) (cut 10 bs))

feed_again : (b : ℕ) (bs : List ℕ) (s : State × List ℕ) (t : Bool) → feed_from bs (s.0, s.1 ++ b ∷ []) ≡ after_cut (s.0, s.1 ++ b ∷ []) (cut 10 bs).first (cut 10 bs).following
    → cond t (line_step s.1 s.0 >>= (λ st. Ok (st, []))) (Ok (s.0, s.1 ++ b ∷ [])) >>= (λ u. feed_from bs u) ≡ after_cut s (cut_again b bs t).first (cut_again b bs t).following
feed_again b bs s true h = ap (λ l. whole_line l s.0 >>= (λ u. feed_from bs u)) (sym (append-nil s.1))
feed_again b bs s false h = h ∙ after_one s b (cut 10 bs).first (cut 10 bs).following

feed_cut : (text : List ℕ) (s : State × List ℕ) → feed_from text s ≡ after_cut s (cut 10 text).first (cut 10 text).following
feed_cut [] s = ap (λ l. Ok (s.0, l)) (sym (append-nil s.1))
feed_cut (b ∷ bs) s = feed_again b bs s (b == 10) (feed_cut bs (s.0, s.1 ++ b ∷ []))

feed_at : (text : List ℕ) (s : State × List ℕ) (c : Cut) (o : Option (List ℕ)) → c ≡ cut 10 text → c.following ≡ o → feed_from text s ≡ after_cut s c.first o
feed_at text s c o h i = feed_cut text s ∙ ap (λ x. after_cut s x.first x.following) (sym h) ∙ ap (λ x. after_cut s c.first x) i

-- the last line, which has not ended
pub feed_last : (text : List ℕ) (s : State × List ℕ) (c : Cut) (all : Result (State × List ℕ) CheckFault) → c ≡ cut 10 text → c.following ≡ None → feed_from text s ≡ all → Ok (s.0, s.1 ++ c.first) ≡ all
feed_last text s c all h i k = sym (feed_at text s c None h i) ∙ k

-- a line that ended, and the bytes after it
pub feed_on : (text more : List ℕ) (s u : State × List ℕ) (c : Cut) (all : Result (State × List ℕ) CheckFault) → c ≡ cut 10 text → c.following ≡ Some more → whole_line (s.1 ++ c.first) s.0 ≡ Ok u → feed_from text s ≡ all → feed_from more u ≡ all
feed_on text more s u c all h i j k = sym (ap (λ r. r >>= (λ t. feed_from more t)) j) ∙ sym (feed_at text s c (Some more) h i) ∙ k

pub fails_more : {A B : Type 0} (f : CheckFault) (r : Result A CheckFault) (g : A → Result B CheckFault) → Fails f r → Fails f (r >>= g)
fails_more faults.Header r g h = ap (λ q. q >>= g) h
fails_more (faults.Line l) r g h = ap (λ q. q >>= g) h
fails_more faults.Truncated r g h = ap (λ q. q >>= g) h
fails_more (faults.WrongCost i n) r g h = ap (λ q. q >>= g) h
fails_more (faults.WrongRule i n) r g h = ap (λ q. q >>= g) h
fails_more (faults.WrongCode i) r g h = ap (λ q. q >>= g) h
fails_more (faults.WrongWords i) r g h = ap (λ q. q >>= g) h
fails_more (faults.TooDeep l) r g h = ap (λ q. q >>= g) h
fails_more faults.Read r g h = ap (λ q. q >>= g) h
fails_more faults.Memory r g h = tt

-- a line with a fault
pub feed_fails : (text more : List ℕ) (s : State × List ℕ) (c : Cut) (f : CheckFault) (all : Result (State × List ℕ) CheckFault) → c ≡ cut 10 text → c.following ≡ Some more → Fails f (whole_line (s.1 ++ c.first) s.0) → feed_from text s ≡ all → Fails f all
feed_fails text more s c f all h i j k =
    subst (λ r. Fails f r) (sym (feed_at text s c (Some more) h i) ∙ k) (fails_more f (whole_line (s.1 ++ c.first) s.0) (λ t. feed_from more t) j)
