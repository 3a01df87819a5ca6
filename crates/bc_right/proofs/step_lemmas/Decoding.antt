-- What the machine does at the words of an operation: they are decoded to that operation, short or long, with any base.
use Rattle.std.proofs.Common.{◌≡◌, ℕ, ◌+◌, ◌*◌, ◌/◌, ◌%◌, ◌<◌, ◌≤◌, ◌==◌, List, [], ◌∷◌, Bool, true, false, refl, sym, ap, ◌∙◌, arith}
use Rattle.std.specs.Prelude.{slice_index, cond, nat_le}
use Rattle.std.proofs.lemmas.Bool.Decides.{nat_tests}
use Rattle.bc_text_items.specs.declared.item.Item.TheVariants.{Operation}
use Rattle.bc_text_items.specs.declared.item.Base.{Base}
use Rattle.bc_text_items.specs.declared.item.Base.TheVariants as bases
use Rattle.bc_text_items.specs.declared.item.Function.{Function}
use Rattle.bc_text_items.specs.declared.item.Function.TheVariants as functions
use Rattle.bc_text_items.specs.Sizes.{operation_size}
use Rattle.bc_text_items.specs.Assembled.{function_number, base_bit, instruction, words_of_item}
use Rattle.bc_machine_defs.specs.declared.state.Registers.{Registers}
use Rattle.bc_machine_defs.specs.State.{State}
use Rattle.bc_machine_defs.specs.Instruction as steps
use Rattle.bc_machine_defs.specs.Instruction.{code_of, has_bit, function_of}
use Rattle.bc_machine_defs.specs.Operand.{next, based}
use Rattle.bc_machine_defs.specs.Step.{step, step_at, perform}
use Rattle.bc_right.specs.steps.CodeAt.{HasWords}

abbrev bit : Bool → ℕ
bit true = 1
bit false = 0

abbrev is_p : Base → Bool
is_p bases.P = true
is_p _ = false

abbrev is_g : Base → Bool
is_g bases.G = true
is_g _ = false

bit_small : (b : Bool) → bit b ≤ 1
bit_small true = omega arith
bit_small false = omega arith

abbrev code : ℕ → Bool → Bool → Bool → Bool → ℕ
code n i p g l = 16 * n + 8 * bit i + 4 * bit p + 2 * bit g + bit l

word_is : (n : ℕ) (i : Bool) (b : Base) (low : ℕ) → 8192 * n + cond i 4096 0 + base_bit b + low ≡ 8192 * n + 4096 * bit i + 2048 * bit (is_p b) + 1024 * bit (is_g b) + low
word_is n true bases.Number low = omega arith
word_is n true bases.P low = omega arith
word_is n true bases.G low = omega arith
word_is n true bases.Label low = omega arith
word_is n false bases.Number low = omega arith
word_is n false bases.P low = omega arith
word_is n false bases.G low = omega arith
word_is n false bases.Label low = omega arith

-- the code as a sum of its bits, at numbers
code_at : (n i p g l low : ℕ) → i ≤ 1 → p ≤ 1 → g ≤ 1 → l ≤ 1 → low < 512 → (8192 * n + 4096 * i + 2048 * p + 1024 * g + (512 * l + low)) / 512 ≡ 16 * n + 8 * i + 4 * p + 2 * g + l
code_at n i p g l low hi hp hg hl h = omega arith

low_at : (n i p g l low : ℕ) → low < 512 → (8192 * n + 4096 * i + 2048 * p + 1024 * g + (512 * l + low)) % 512 ≡ low
low_at n i p g l low h = omega arith

bit_8 : (n i p g l : ℕ) → i ≤ 1 → p ≤ 1 → g ≤ 1 → l ≤ 1 → ((16 * n + 8 * i + 4 * p + 2 * g + l) / 8) % 2 ≡ i
bit_8 n i p g l hi hp hg hl = omega arith

bit_4 : (n i p g l : ℕ) → i ≤ 1 → p ≤ 1 → g ≤ 1 → l ≤ 1 → ((16 * n + 8 * i + 4 * p + 2 * g + l) / 4) % 2 ≡ p
bit_4 n i p g l hi hp hg hl = omega arith

bit_2 : (n i p g l : ℕ) → i ≤ 1 → p ≤ 1 → g ≤ 1 → l ≤ 1 → ((16 * n + 8 * i + 4 * p + 2 * g + l) / 2) % 2 ≡ g
bit_2 n i p g l hi hp hg hl = omega arith

bit_1 : (n i p g l : ℕ) → i ≤ 1 → p ≤ 1 → g ≤ 1 → l ≤ 1 → ((16 * n + 8 * i + 4 * p + 2 * g + l) / 1) % 2 ≡ l
bit_1 n i p g l hi hp hg hl = omega arith

function_at : (n i p g l : ℕ) → i ≤ 1 → p ≤ 1 → g ≤ 1 → l ≤ 1 → (16 * n + 8 * i + 4 * p + 2 * g + l) / 16 ≡ n
function_at n i p g l hi hp hg hl = omega arith

is_one : (b : Bool) (k : ℕ) → k ≡ bit b → (k == 1) ≡ b
is_one true k e = ap (λ z. z == 1) e
is_one false k e = ap (λ z. z == 1) e

abbrev function_by : ℕ → steps.Function
function_by n =
    cond (n == 0) steps.Load (cond (n == 1) steps.Store (cond (n == 2) steps.Plus (
    cond (n == 3) steps.Jump (cond (n == 4) steps.JumpTrue (cond (n == 5) steps.JumpFalse (
    cond (n == 6) steps.Call steps.Execute))))))

-- the machine's name of an item's function
abbrev pub machine_function : Function → steps.Function
machine_function functions.Load = steps.Load
machine_function functions.Store = steps.Store
machine_function functions.Add = steps.Plus
machine_function functions.Jump = steps.Jump
machine_function functions.JumpIfTrue = steps.JumpTrue
machine_function functions.JumpIfFalse = steps.JumpFalse
machine_function functions.Call = steps.Call
machine_function functions.Execute = steps.Execute

by_number : (f : Function) → function_by (function_number f) ≡ machine_function f
by_number functions.Load = refl
by_number functions.Store = refl
by_number functions.Add = refl
by_number functions.Jump = refl
by_number functions.JumpIfTrue = refl
by_number functions.JumpIfFalse = refl
by_number functions.Call = refl
by_number functions.Execute = refl

-- a step, once the parts of its code are known
of_parts : (code word : ℕ) (f : steps.Function) (i p g l : Bool) (low : ℕ) (s : State) → function_of code ≡ f → has_bit code 8 ≡ i → has_bit code 4 ≡ p → has_bit code 2 ≡ g → has_bit code 1 ≡ l → word % 512 ≡ low
    → step_at code word s ≡ perform f (let at = based p g s.registers (cond l (slice_index s.store (next s.registers.c)) low) in cond i (slice_index s.store at) at) (record s.registers { c = cond l (next (next s.registers.c)) (next s.registers.c) }) s
of_parts code word f i p g l low s hf h8 h4 h2 h1 hw =
    let at : Bool → Bool → Bool → ℕ → ℕ = λ q h k n. based q h s.registers (cond k (slice_index s.store (next s.registers.c)) n) in
    let d : Bool → Bool → Bool → Bool → ℕ → ℕ = λ j q h k n. cond j (slice_index s.store (at q h k n)) (at q h k n) in
    let r : Bool → Registers = λ k. record s.registers { c = cond k (next (next s.registers.c)) (next s.registers.c) } in
    ap (λ z. perform z (d (has_bit code 8) (has_bit code 4) (has_bit code 2) (has_bit code 1) (word % 512)) (r (has_bit code 1)) s) hf
    ∙ ap (λ z. perform f (d z (has_bit code 4) (has_bit code 2) (has_bit code 1) (word % 512)) (r (has_bit code 1)) s) h8
    ∙ ap (λ z. perform f (d i z (has_bit code 2) (has_bit code 1) (word % 512)) (r (has_bit code 1)) s) h4
    ∙ ap (λ z. perform f (d i p z (has_bit code 1) (word % 512)) (r (has_bit code 1)) s) h2
    ∙ ap (λ z. perform f (d i p g z (word % 512)) (r z) s) h1
    ∙ ap (λ z. perform f (d i p g l z) (r l) s) hw

-- the address of an operation, and its operand
abbrev pub value_at : (ℕ → ℕ) → Base → ℕ → ℕ → ℕ
value_at address bases.Number n p = n
value_at address bases.P n p = (n + p) % 65536
value_at address bases.G n p = (n + 8) % 65536
value_at address bases.Label n p = address n

abbrev pub operand_at : (ℕ → ℕ) → Bool → Base → ℕ → ℕ → List ℕ → ℕ
operand_at address i b n p store = let at = value_at address b n p in cond i (slice_index store at) at

based_is : (address : ℕ → ℕ) (b : Base) (n : ℕ) (r : Registers) → (b ≡ bases.Label → ⊥) → based (is_p b) (is_g b) r n ≡ value_at address b n r.p
based_is address bases.Number n r h = refl
based_is address bases.P n r h = refl
based_is address bases.G n r h = refl
based_is address bases.Label n r h = absurd (h refl)

-- the step at an instruction's word, short or long
stepped : (f : Function) (i : Bool) (b : Base) (l : Bool) (low : ℕ) (s : State) → low < 512 → slice_index s.store s.registers.c ≡ instruction f i b (512 * bit l + low)
    → step s ≡ perform (machine_function f) (let at = based (is_p b) (is_g b) s.registers (cond l (slice_index s.store (next s.registers.c)) low) in cond i (slice_index s.store at) at) (record s.registers { c = cond l (next (next s.registers.c)) (next s.registers.c) }) s
unfolding step
stepped f i b l low s h e =
    let n = function_number f in
    let p = is_p b in
    let g = is_g b in
    let hi = bit_small i in let hp = bit_small p in let hg = bit_small g in let hl = bit_small l in
    let word = slice_index s.store s.registers.c in
    let is : word ≡ 8192 * n + 4096 * bit i + 2048 * bit p + 1024 * bit g + (512 * bit l + low) = e ∙ word_is n i b (512 * bit l + low) in
    let c : code_of word ≡ code n i p g l = ap (λ z. z / 512) is ∙ code_at n (bit i) (bit p) (bit g) (bit l) low hi hp hg hl h in
    let w : word % 512 ≡ low = ap (λ z. z % 512) is ∙ low_at n (bit i) (bit p) (bit g) (bit l) low h in
    of_parts (code_of word) word (machine_function f) i p g l low s
    (ap function_of c ∙ ap function_by (function_at n (bit i) (bit p) (bit g) (bit l) hi hp hg hl) ∙ by_number f)
    (is_one i _ (ap (λ z. (z / 8) % 2) c ∙ bit_8 n (bit i) (bit p) (bit g) (bit l) hi hp hg hl))
    (is_one p _ (ap (λ z. (z / 4) % 2) c ∙ bit_4 n (bit i) (bit p) (bit g) (bit l) hi hp hg hl))
    (is_one g _ (ap (λ z. (z / 2) % 2) c ∙ bit_2 n (bit i) (bit p) (bit g) (bit l) hi hp hg hl))
    (is_one l _ (ap (λ z. (z / 1) % 2) c ∙ bit_1 n (bit i) (bit p) (bit g) (bit l) hi hp hg hl))
    w

next_is : (c : ℕ) → c + 1 < 65536 → next c ≡ c + 1
next_is c h = omega arith

-- what the machine does at an operation: it executes the function with the operand, and continues after the operation's words
abbrev pub Executes : (ℕ → ℕ) → Function → Bool → Base → ℕ → State → Type 0
Executes address f i b n s =
    step s ≡ perform (machine_function f) (operand_at address i b n s.registers.p s.store) (record s.registers { c = s.registers.c + operation_size b n }) s

executes_short : (address : ℕ → ℕ) (f : Function) (i : Bool) (b : Base) (n : ℕ) (s : State) → (b ≡ bases.Label → ⊥) → n < 512 → s.registers.c + 1 < 65536 → slice_index s.store s.registers.c ≡ instruction f i b n
    → step s ≡ perform (machine_function f) (operand_at address i b n s.registers.p s.store) (record s.registers { c = s.registers.c + 1 }) s
executes_short address f i b n s not_label small fits e =
    let zero_bit : 512 * 0 + n ≡ n = omega arith in
    stepped f i b false n s small (e ∙ ap (instruction f i b) (sym zero_bit))
    ∙ ap (λ at. perform (machine_function f) (cond i (slice_index s.store at) at) (record s.registers { c = next s.registers.c }) s) (based_is address b n s.registers not_label)
    ∙ ap (λ c. perform (machine_function f) (operand_at address i b n s.registers.p s.store) (record s.registers { c = c }) s) (next_is s.registers.c fits)

executes_long : (address : ℕ → ℕ) (f : Function) (i : Bool) (b : Base) (n at : ℕ) (s : State) → s.registers.c + 2 < 65536 → slice_index s.store s.registers.c ≡ instruction f i b 512 → slice_index s.store (s.registers.c + 1) ≡ n → based (is_p b) (is_g b) s.registers n ≡ at
    → step s ≡ perform (machine_function f) (cond i (slice_index s.store at) at) (record s.registers { c = s.registers.c + 2 }) s
executes_long address f i b n at s fits e e1 is =
    let c = s.registers.c in
    let zero_low : 0 < 512 = omega arith in
    let one : next c ≡ c + 1 = omega arith in
    let two : next (next c) ≡ c + 2 = omega arith in
    stepped f i b true 0 s zero_low e
    ∙ ap (λ z. perform (machine_function f) (let d = based (is_p b) (is_g b) s.registers (slice_index s.store z) in cond i (slice_index s.store d) d) (record s.registers { c = next (next c) }) s) one
    ∙ ap (λ z. perform (machine_function f) (let d = based (is_p b) (is_g b) s.registers z in cond i (slice_index s.store d) d) (record s.registers { c = next (next c) }) s) e1
    ∙ ap (λ z. perform (machine_function f) (cond i (slice_index s.store z) z) (record s.registers { c = next (next c) }) s) is
    ∙ ap (λ z. perform (machine_function f) (cond i (slice_index s.store at) at) (record s.registers { c = z }) s) two

by_length : (address : ℕ → ℕ) (f : Function) (i : Bool) (b : Base) (n : ℕ) (s : State) (short : Bool) → (b ≡ bases.Label → ⊥) → nat_le n 511 ≡ short
    → HasWords s.store s.registers.c (cond short (instruction f i b n ∷ []) (instruction f i b 512 ∷ n ∷ [])) → s.registers.c + cond short 1 2 < 65536
    → step s ≡ perform (machine_function f) (operand_at address i b n s.registers.p s.store) (record s.registers { c = s.registers.c + cond short 1 2 }) s
by_length address f i b n s true not_label e h fits = let small : n < 512 = grind (arith, nat_tests) in executes_short address f i b n s not_label small fits h.0
by_length address f i b n s false not_label e h fits = executes_long address f i b n (value_at address b n s.registers.p) s fits h.0 h.1.0 (based_is address b n s.registers not_label)

-- the step at an operation's words
pub executes : (address : ℕ → ℕ) (f : Function) (i : Bool) (b : Base) (n : ℕ) (s : State) → HasWords s.store s.registers.c (words_of_item address (Operation f i b n)) → s.registers.c + operation_size b n < 65536 → Executes address f i b n s
executes address f i bases.Number n s h fits = by_length address f i bases.Number n s (nat_le n 511) (λ e. cc) refl h fits
executes address f i bases.P n s h fits = by_length address f i bases.P n s (nat_le n 511) (λ e. cc) refl h fits
executes address f i bases.G n s h fits = by_length address f i bases.G n s (nat_le n 511) (λ e. cc) refl h fits
executes address f i bases.Label n s h fits = executes_long address f i bases.Label (address n) (address n) s fits h.0 h.1.0 refl
