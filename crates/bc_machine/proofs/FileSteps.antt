-- The operations of streams over readers and writers that say which bytes they hold.
use Rattle.std.proofs.Common.{◌≡◌, ℕ, ◌-◌, ◌<◌, ◌≤◌, List, [], ◌∷◌, ◌++◌, map, length, get_or, set, true, false, Some, None, refl, sym, ap, ◌∙◌, arith, slice_set}
use Rattle.std.specs.Prelude.{IsSome}
use Rattle.std.specs.Io.KnownBytes.{Keeps, Appends}
use Rattle.std.proofs.Math.Seq.{map-set_same}
use Rattle.std.proofs.lemmas.Option.{slice_get-get_or}
use Rattle.std.proofs.lemmas.List.{map-set, length-map}
use Rattle.bc_machine_defs.specs.Streams.{Input, Output, numbered}
use Rattle.bc_machine_defs.specs.StreamCalls.{after_write, end_stream}
use Rattle.bc_machine_defs.specs.declared.streams.Side.TheVariants as sides
use Rattle.bc_machine.specs.Known.{AllKnown}
use Rattle.bc_machine.specs.FileContent.{told, file_outputs, devices}
use Rattle.bc_machine.specs.declared.names.Named.{Named}
use Rattle.bc_machine.specs.declared.names.NamedOutput.{NamedOutput}
use Rattle.bc_machine.proofs.Tables.{content, after_write-ended, after_write-open, end_output-at}
use Rattle.bc_machine.proofs.FileOutputs.{Told, file_output, told_get, numbered_output, file_outputs-written, file_outputs-ended, known_at, known_after}
use Rattle.std.proofs.lemmas.Option.{slice_get_read}

pub keeps_same : (before after : Told) → Keeps before after → IsSome before → after ≡ before
keeps_same None after h p = absurd cc
keeps_same (Some bytes) None h p = absurd h
keeps_same (Some bytes) (Some more) h p = ap Some h

pub appends_told : (before after : Told) (bytes : List ℕ) → Appends before after bytes → IsSome before → told after ≡ told before ++ bytes
appends_told None after bytes h p = absurd cc
appends_told (Some old) None bytes h p = absurd h
appends_told (Some old) (Some new) bytes h p = h

pub appends_known : (before after : Told) (bytes : List ℕ) → Appends before after bytes → IsSome before → IsSome after
appends_known None after bytes h p = absurd cc
appends_known (Some old) None bytes h p = absurd h
appends_known (Some old) (Some new) bytes h p = refl

-- an element is replaced by one with the same known bytes
pub same_told : {X Y : Type 0} (f : X → Y) (xs : List X) (k : ℕ) (x y : X) → x ≡ get_or xs k x → f y ≡ f x → map f (set xs k y) ≡ map f xs
same_told f xs k x y is h = map-set_same f xs k y x (h ∙ ap f is)

-- writes and ends of the selected output
module _ {W : Type 0} (contents : W → Told) (inputs : List Input) (os : List NamedOutput) (ws : List W) (input n : ℕ) (o : NamedOutput) (some : 0 < n) (within : n ≤ length os) (same_length : length ws ≡ length os) (is : o ≡ get_or os (n - 1) o) where
  abbrev outputs : List Output
  outputs = file_outputs os (map contents ws)

  any_told : Told
  any_told = get_or (map contents ws) (n - 1) None

  at_any : numbered outputs n ≡ Some (file_output o any_told)
  unfolding any_told
  at_any =
      let less : n - 1 < length (map contents ws) = omega (arith, length-map ws contents) in
      numbered_output n os (map contents ws) o any_told some within is (slice_get-get_or (map contents ws) (n - 1) None less)

  pub dropped : (byte : ℕ) → o.ended ≡ true → content inputs outputs input n ≡ after_write byte (content inputs outputs input n)
  dropped byte h = after_write-ended inputs outputs input n byte (file_output o any_told) at_any h

  module _ (w v : W) (at : w ≡ get_or ws (n - 1) w) where
    writers_within : n ≤ length ws
    writers_within = omega (arith, within, same_length)

    at_told : numbered outputs n ≡ Some (file_output o (contents w))
    at_told = numbered_output n os (map contents ws) o (contents w) some within is (told_get contents ws n w some writers_within at)

    pub is_known : AllKnown (map contents ws) → IsSome (contents w)
    is_known = known_at contents ws n w some writers_within at

    pub stay_known : AllKnown (map contents ws) → IsSome (contents v) → AllKnown (map contents (set ws (n - 1) v))
    stay_known = known_after contents ws n w some writers_within at v

    pub writes : (byte : ℕ) → o.ended ≡ false → told (contents v) ≡ told (contents w) ++ byte ∷ []
        → content inputs (file_outputs os (map contents (set ws (n - 1) v))) input n ≡ after_write byte (content inputs outputs input n)
    writes byte open_still h =
        let less : n - 1 < length os = omega arith in
        ap (λ all. content inputs (file_outputs os all) input n) (map-set contents ws (n - 1) v)
        ∙ ap (λ all. content inputs all input n) (file_outputs-written os (map contents ws) (n - 1) o (contents v) (slice_get_read os (length os) (n - 1) o refl less is))
        ∙ ap (λ bytes. content inputs (slice_set outputs (n - 1) (record (file_output o (contents w)) { written = bytes })) input n) h
        ∙ sym (after_write-open inputs outputs input n byte (file_output o (contents w)) at_told open_still)

    pub ends_output : (p : NamedOutput) → p.name ≡ o.name → p.ended ≡ true → contents v ≡ contents w
        → content inputs (file_outputs (set os (n - 1) p) (map contents (set ws (n - 1) v))) input 0
        ≡ end_stream sides.Output (content inputs outputs input n)
    ends_output p named ended h =
        let told_still = same_told contents ws (n - 1) w v at h in
        let end_of : file_output p (contents w) ≡ record (file_output o (contents w)) { ended = true } = rw (named, ended) refl in
        ap (λ all. content inputs (file_outputs (set os (n - 1) p) all) input 0) told_still
        ∙ ap (λ all. content inputs all input 0) (file_outputs-ended os (map contents ws) (n - 1) p (contents w) (told_get contents ws n w some writers_within at))
        ∙ ap (λ x. content inputs (slice_set outputs (n - 1) x) input 0) end_of
        ∙ sym (end_output-at inputs outputs input n (file_output o (contents w)) at_told)

-- what the devices that are passed in say they hold
pub told_of_devices : {T : Type 0} (f : T → Told) (named : List (Named T)) → map f (devices named) ≡ map (λ (n : Named T). f n.device) named
told_of_devices f [] = refl
told_of_devices f (n ∷ named) = ap (λ rest. f n.device ∷ rest) (told_of_devices f named)
