-- Outputs only grow.
use Rattle.std.proofs.Common.{◌≡◌, ℕ, zero, suc, ◌-◌, List, [], ◌∷◌, ◌++◌, Bool, true, false, Option, Some, None, refl, sym, ap, ◌∙◌, append_assoc, append-nil, subst, arith}
use Rattle.std.specs.Prelude.{map, slice_get, slice_set}
use Rattle.bc_machine_defs.specs.declared.streams.Side.{Side}
use Rattle.bc_machine_defs.specs.declared.streams.Side.TheVariants as sides
use Rattle.bc_machine_defs.specs.Streams.{Content, Input, Output, numbered}
use Rattle.bc_machine_defs.specs.StreamCalls.{output_of, select_stream, after_read, with_input_read, after_write, with_output_written, more_written, end_stream, with_input_ended, with_output_ended, replaced}
use Rattle.bc_core.specs.Laws.{Longer}

pub longer_refl : (xs : List (List ℕ)) → Longer xs xs
longer_refl [] = tt
longer_refl (x ∷ xs) = (([], sym (append-nil x)), longer_refl xs)

pub longer_then : (xs ys zs : List (List ℕ)) → Longer xs ys → Longer ys zs → Longer xs zs
longer_then [] [] [] h k = tt
longer_then (x ∷ xs) (y ∷ ys) (z ∷ zs) h k =
    ((h.0.0 ++ k.0.0, k.0.1 ∙ ap (λ w. w ++ k.0.0) h.0.1 ∙ append_assoc x h.0.0 k.0.0), longer_then xs ys zs h.1 k.1)
longer_then [] [] (z ∷ zs) h k = absurd k
longer_then [] (y ∷ ys) zs h k = absurd h
longer_then (x ∷ xs) [] zs h k = absurd h
longer_then (x ∷ xs) (y ∷ ys) [] h k = absurd k

abbrev written_of : List Output → List (List ℕ)
written_of os = map (λ (o : Output). o.written) os

-- one output in the table is replaced by another one that has more bytes
one_longer : (os : List Output) (k : ℕ) (o new : Output) → slice_get os k ≡ Some o → ((more : List ℕ) × (new.written ≡ o.written ++ more)) → Longer (written_of os) (written_of (slice_set os k new))
one_longer [] k o new h m = tt
one_longer (p ∷ os) zero o new h m =
    let same : p ≡ o = cc in
    ((m.0, m.1 ∙ ap (λ (z : Output). z.written ++ m.0) (sym same)), longer_refl (written_of os))
one_longer (p ∷ os) (suc k) o new h m = (([], sym (append-nil p.written)), one_longer os k o new h m)

more : (ended : Bool) (written : List ℕ) (byte : ℕ) → (rest : List ℕ) × (more_written ended written byte ≡ written ++ rest)
more true written byte = ([], sym (append-nil written))
more false written byte = (byte ∷ [], refl)

at_number : (os : List Output) (n : ℕ) (o new : Output) → numbered os n ≡ Some o → ((more : List ℕ) × (new.written ≡ o.written ++ more)) → Longer (written_of os) (written_of (replaced os n new))
at_number os zero o new h m = cc
at_number os (suc k) o new h m =
    let e : suc k - 1 ≡ k = omega arith in
    subst (λ i. Longer (written_of os) (written_of (slice_set os i new))) (sym e) (one_longer os k o new h m)

pub select_longer : (side : Side) (n : ℕ) (c : Content) → Longer (output_of c) (output_of (select_stream side n c))
select_longer sides.Input n c = longer_refl (output_of c)
select_longer sides.Output n c = longer_refl (output_of c)

pub read_longer : (c : Content) → Longer (output_of c) (output_of (after_read c))
read_longer c = at_input (numbered c.inputs c.input) where
  at_input : (i : Option Input) → Longer (output_of c) (output_of (with_input_read i c))
  at_input None = longer_refl (output_of c)
  at_input (Some i) = longer_refl (output_of c)

pub write_longer : (byte : ℕ) (c : Content) → Longer (output_of c) (output_of (after_write byte c))
write_longer byte c = at_output (numbered c.outputs c.output) refl where
  at_output : (o : Option Output) → numbered c.outputs c.output ≡ o → Longer (output_of c) (output_of (with_output_written o byte c))
  at_output None h = longer_refl (output_of c)
  at_output (Some o) h = at_number c.outputs c.output o _ h (more o.ended o.written byte)

pub end_longer : (side : Side) (c : Content) → Longer (output_of c) (output_of (end_stream side c))
end_longer sides.Input c = at_input (numbered c.inputs c.input) where
  at_input : (i : Option Input) → Longer (output_of c) (output_of (with_input_ended i c))
  at_input None = longer_refl (output_of c)
  at_input (Some i) = longer_refl (output_of c)
end_longer sides.Output c = at_output (numbered c.outputs c.output) refl where
  at_output : (o : Option Output) → numbered c.outputs c.output ≡ o → Longer (output_of c) (output_of (with_output_ended o c))
  at_output None h = longer_refl (output_of c)
  at_output (Some o) h = at_number c.outputs c.output o _ h ([], sym (append-nil o.written))
