-- Whether the frames of two parts fit, one part after the other.
use Rattle.std.proofs.Common.{◌≡◌, ℕ, max, arith, refl, ap, ◌∙◌, sym, nat_le, ◌&&◌, Bool, true, false, List, [], ◌∷◌, ◌++◌}
use Rattle.bc_scope_defs.specs.Found.{Thing, AValof, ARoutine, Data}
use Rattle.bc_scope_defs.specs.FramesAlong.{frame_of}
use Rattle.bc_scope_defs.specs.Faults.{AFrameTooLarge, unless, or_else}
use Rattle.bc_scope_defs.specs.FaultsAlong.{frames_fault}
use Rattle.bc_scope_faults.specs.Seen.{frames_fit}

pub frames_along : (b : Bool) (xs ys : List Thing) → frames_fit b (xs ++ ys) ≡ frames_fit (frames_fit b xs) ys
frames_along b [] ys = refl
frames_along b (AValof f ∷ xs) ys = frames_along b xs ys
frames_along b (ARoutine r ∷ xs) ys = frames_along (b && nat_le (frame_of r) 32768) xs ys
frames_along b (Data q d ∷ xs) ys = frames_along b xs ys

none_fits : (xs : List Thing) → frames_fit false xs ≡ false
none_fits [] = refl
none_fits (AValof f ∷ xs) = none_fits xs
none_fits (ARoutine r ∷ xs) = none_fits xs
none_fits (Data q d ∷ xs) = none_fits xs

and_false : (b : Bool) → (b && false) ≡ false
and_false true = refl
and_false false = refl

and_true : (b : Bool) → (b && true) ≡ b
and_true true = refl
and_true false = refl

-- a routine's own frame may be checked after those of the routines in it
pub frames_last : (b c : Bool) (xs : List Thing) → frames_fit (b && c) xs ≡ frames_fit b xs && c
frames_last b true xs = ap (λ d. frames_fit d xs) (and_true b) ∙ sym (and_true (frames_fit b xs))
frames_last b false xs = ap (λ d. frames_fit d xs) (and_false b) ∙ none_fits xs ∙ sym (and_false (frames_fit b xs))

first_frame : (c : Bool) (xs : List Thing) → frames_fault xs ≡ unless (frames_fit true xs) AFrameTooLarge → or_else (unless c AFrameTooLarge) (frames_fault xs) ≡ unless (frames_fit c xs) AFrameTooLarge
first_frame true xs h = h
first_frame false xs h = rw (none_fits xs) refl

-- if not all frames fit, the fault is that one is too large
pub frames_judged : (xs : List Thing) → frames_fault xs ≡ unless (frames_fit true xs) AFrameTooLarge
frames_judged [] = refl
frames_judged (AValof f ∷ xs) = frames_judged xs
frames_judged (ARoutine r ∷ xs) = first_frame (nat_le (frame_of r) 32768) xs (frames_judged xs)
frames_judged (Data q d ∷ xs) = frames_judged xs

pub max_along : (a b c : ℕ) → max (max a b) c ≡ max a (max b c)
max_along a b c = omega arith

pub wider : (w v m r whole : ℕ) → m ≡ max w v → max w (max v r) ≡ whole → max m r ≡ whole
wider w v m r whole e h = ap (λ x. max x r) e ∙ max_along w v r ∙ h

pub follows : (b c : Bool) (xs ys : List Thing) (whole : Bool) → c ≡ frames_fit b xs → frames_fit b (xs ++ ys) ≡ whole → frames_fit c ys ≡ whole
follows b c xs ys whole e h = ap (λ x. frames_fit x ys) e ∙ sym (frames_along b xs ys) ∙ h

pub ruleset along = (frames_along, max_along)
