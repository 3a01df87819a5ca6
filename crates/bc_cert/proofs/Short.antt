-- An accepted certificate isn't longer than the limit.
use Rattle.std.proofs.Common.{◌≡◌, ◌∙◌, ℕ, ◌+◌, ◌-◌, ◌≤◌, List, [], ◌++◌, Option, Some, None, length, length-append, length-take, take, refl, ap, append-nil, arith}
use Rattle.std.specs.Option.{IfSome}
use Rattle.std.specs.Io.KnownBytes.{Consumes, IsAtEnd}
use Rattle.bc_cert.specs.Answer.{limit}
use Rattle.bc_cert.proofs.Steps.{consumes_more}

-- how many bytes may still be read
abbrev pub Leaves : Option (List ℕ) → Option (List ℕ) → ℕ → Type 0
Leaves known left n = (bytes : List ℕ) × Consumes known left bytes × (length bytes + n ≤ limit)

nothing_read : (known : Option (List ℕ)) → Consumes known known []
nothing_read None = tt
nothing_read (Some xs) = refl

pub leaves_all : (known : Option (List ℕ)) → Leaves known known limit
leaves_all known = ([], nothing_read known, omega arith)

pub leaves_less : (known middle left : Option (List ℕ)) (now : List ℕ) (n kept count : ℕ) → kept ≡ count → kept ≤ n → Leaves known middle n → Consumes middle left (take count now)
    → Leaves known left (n - kept)
leaves_less known middle left now n kept count same within before read =
    let few : length (take kept now) ≤ kept = simp length-take (omega arith) in
    let whole : length (before.0 ++ take kept now) ≡ length before.0 + length (take kept now) = length-append before.0 (take kept now) in
    (before.0 ++ take kept now, consumes_more known middle left before.0 now kept count same before.1 read, omega (arith, few, whole, within, before.2))

pub short_at_end : (known middle left : Option (List ℕ)) (now : List ℕ) (n count : ℕ) → count ≡ 0 → Leaves known middle n → Consumes middle left (take count now) → IsAtEnd left
    → IfSome known (λ bytes. length bytes ≤ limit)
short_at_end None middle left now n count none before read end = tt
short_at_end (Some xs) None left now n count none before read end = absurd before.1
short_at_end (Some xs) (Some ys) None now n count none before read end = absurd read
short_at_end (Some xs) (Some ys) (Some zs) now n count none before read end =
    let empty : take count now ≡ [] = ap (λ k. take k now) none in
    let all : xs ≡ before.0 = before.1 ∙ ap (λ more. before.0 ++ more) (read ∙ ap (λ front. front ++ zs) empty ∙ end) ∙ append-nil before.0 in
    let long : length xs ≡ length before.0 = ap length all in
    omega (arith, long, before.2)
