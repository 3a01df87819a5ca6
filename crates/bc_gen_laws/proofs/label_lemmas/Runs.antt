-- Code that takes consecutive labels, and its concatenation.
use Rattle.std.proofs.Common.{◌≡◌, ◌∙◌, ℕ, ◌+◌, ◌≤◌, ◌<◌, ◌&&◌, Bool, true, List, [], ◌∷◌, ◌++◌, sym, ap, subst, inl, inr, arith}
use Rattle.std.specs.Prelude.{nat_le}
use Rattle.bc_text_items.specs.declared.item.Item.{Item}
use Rattle.bc_text_items.specs.declared.item.Item.TheVariants.{Label}
use Rattle.bc_core.specs.Tree.{Exp, Root}
use Rattle.bc_core.specs.Commands.{Items}
use Rattle.bc_core.specs.WellFormed.{Around, Jumps, nodes, most_nodes, exp_fits, root_fits, assignment_fits, has, labels_of, in_a_loop, in_list}
use Rattle.bc_core.specs.Level.{side_level}
use Rattle.bc_gen_defs.specs.Emit.{Code, Roots, Exits, labelled, labels_in}
use Rattle.bc_gen_laws.proofs.label_lemmas.Counts.{at, below, next_below, stands, stands_both}
use Rattle.bc_gen_laws.proofs.label_lemmas.Fresh.{left_true, right_true, Labelled, labelled_within}
use Rattle.bc_gen_laws.proofs.label_lemmas.Speaking.{In, Speaks}
use Rattle.bc_gen_laws.proofs.label_lemmas.Names.{Names, NamesOfRoot, AimsOfRoot, exp_names}

-- The items set each label from f to g - 1 once, and each label k a further c(k) times.
pub record Run (c : ℕ → ℕ) (f g : ℕ) (xs : List Item) : Type 0 where
  pub each : (k : ℕ) → stands k xs + below k f ≡ below k g + c k

abbrev pub none : ℕ → ℕ
none k = 0

after_both : (n x y b0 b1 b2 c d : ℕ) → n ≡ x + y → x + b0 ≡ b1 + c → y + b1 ≡ b2 + d → n + b0 ≡ b2 + (c + d)
after_both n x y b0 b1 b2 c d e h i = omega arith

pub following : {c d : ℕ → ℕ} {f g h : ℕ} (xs ys : List Item) → Run c f g xs → Run d g h ys → Run (λ k. c k + d k) f h (xs ++ ys)
following {c = c} {d = d} {f = f} {g = g} {h = h} xs ys a b = record { each = λ k. after_both _ (stands k xs) (stands k ys) (below k f) (below k g) (below k h) (c k) (d k) (stands_both k xs ys) (a.each k) (b.each k) }

marked : (a y b0 b1 d : ℕ) → y + b0 ≡ b1 + d → a + y + b0 ≡ b1 + (a + d)
marked a y b0 b1 d h = omega arith

pub mark : {d : ℕ → ℕ} {f g : ℕ} (l : ℕ) (ys : List Item) → Run d f g ys → Run (λ k. at l k + d k) f g (Label l ∷ ys)
mark {d = d} {f = f} {g = g} l ys h = record { each = λ k. marked (at l k) (stands k ys) (below k f) (below k g) (d k) (h.each k) }

nothing_more : (b : ℕ) → 0 + b ≡ b + 0
nothing_more b = omega arith

pub empty : (f : ℕ) → Run none f f []
empty f = record { each = λ k. nothing_more (below k f) }

-- items without labels change nothing
pub alike : {c : ℕ → ℕ} {f g : ℕ} (xs ys : List Item) → ((k : ℕ) → stands k xs ≡ stands k ys) → Run c f g ys → Run c f g xs
alike {c = c} {f = f} {g = g} xs ys e h = record { each = λ k. ap (λ m. m + below k f) (e k) ∙ h.each k }

closing : (n b0 b1 b2 c a : ℕ) → n + b1 ≡ b2 + c → b1 ≡ b0 + a → c ≡ a → n + b0 ≡ b2 + 0
closing n b0 b1 b2 c a h i j = omega arith

second_below : (k f : ℕ) → below k (f + 2) ≡ below k f + (at f k + at (f + 1) k)
second_below k f = by (below k (f + 2)) (below k (f + 1)) (below k f) (at f k) (at (f + 1) k) (ap (below k) (omega arith) ∙ next_below k (f + 1)) (next_below k f) where
  by : (a b c d e : ℕ) → a ≡ b + e → b ≡ c + d → a ≡ c + (d + e)
  by a b c d e h i = omega arith

third_below : (k f : ℕ) → below k (f + 3) ≡ below k f + (at f k + at (f + 1) k + at (f + 2) k)
third_below k f = by (below k (f + 3)) (below k (f + 2)) (below k f) (at f k + at (f + 1) k) (at (f + 2) k) (ap (below k) (omega arith) ∙ next_below k (f + 2)) (second_below k f) where
  by : (a b c d e : ℕ) → a ≡ b + e → b ≡ c + d → a ≡ c + (d + e)
  by a b c d e h i = omega arith

-- labels that were taken before are set within the code
pub close_one : {c : ℕ → ℕ} {g : ℕ} (f : ℕ) (xs : List Item) → Run c (f + 1) g xs → ((k : ℕ) → c k ≡ at f k) → Run none f g xs
close_one {c = c} {g = g} f xs h e = record { each = λ k. closing (stands k xs) (below k f) (below k (f + 1)) (below k g) (c k) (at f k) (h.each k) (next_below k f) (e k) }

pub close_two : {c : ℕ → ℕ} {g : ℕ} (f : ℕ) (xs : List Item) → Run c (f + 2) g xs → ((k : ℕ) → c k ≡ at f k + at (f + 1) k) → Run none f g xs
close_two {c = c} {g = g} f xs h e = record { each = λ k. closing (stands k xs) (below k f) (below k (f + 2)) (below k g) (c k) (at f k + at (f + 1) k) (h.each k) (second_below k f) (e k) }

pub close_three : {c : ℕ → ℕ} {g : ℕ} (f : ℕ) (xs : List Item) → Run c (f + 3) g xs → ((k : ℕ) → c k ≡ at f k + at (f + 1) k + at (f + 2) k) → Run none f g xs
close_three {c = c} {g = g} f xs h e = record { each = λ k. closing (stands k xs) (below k f) (below k (f + 3)) (below k g) (c k) (at f k + at (f + 1) k + at (f + 2) k) (h.each k) (third_below k f) (e k) }

closing_part : (n b0 b1 b2 c a d : ℕ) → n + b1 ≡ b2 + c → a + b0 ≡ b1 → c ≡ a + d → n + b0 ≡ b2 + d
closing_part n b0 b1 b2 c a d h i j = omega arith

-- the same for the labels of a list, from f on
pub close_list : {c : ℕ → ℕ} {g : ℕ} (f m : ℕ) (taken rest : ℕ → ℕ) (xs : List Item) → Run c (f + m) g xs → ((k : ℕ) → taken k + below k f ≡ below k (f + m)) → ((k : ℕ) → c k ≡ taken k + rest k) → Run rest f g xs
close_list {c = c} {g = g} f m taken rest xs h i e =
    record { each = λ k. closing_part (stands k xs) (below k f) (below k (f + m)) (below k g) (c k) (taken k) (rest k) (h.each k) (i k) (e k) }

pub same_owed : {c : ℕ → ℕ} {f g : ℕ} (d : ℕ → ℕ) (xs : List Item) → Run c f g xs → ((k : ℕ) → c k ≡ d k) → Run d f g xs
same_owed {c = c} {f = f} {g = g} d xs h e = record { each = λ k. h.each k ∙ ap (λ m. below k g + m) (e k) }

-- Code that takes the labels from f on, and uses only these and those that Q allows.
pub record Sound (Q : ℕ → Type 0) (c : ℕ → ℕ) (f : ℕ) (x : Code Item) : Type 0 where
  pub up : f ≤ x.1
  pub run : Run c f x.1 x.0
  pub speaks : (n : ℕ) → Q n → 1 ≤ f → x.1 ≤ n → Speaks n x.0

abbrev pub SoundRoots : (places : ℕ) → Roots Item → Type 0
SoundRoots places roots = (r : Root) (t f : ℕ) → Sound (λ n. (places < n) × NamesOfRoot n r × AimsOfRoot n r t) none f (roots r t f)

-- the labels to which a command may jump are known ones
pub record Allowed (A : Around) (J : Jumps) (E : Exits) (n : ℕ) : Type 0 where
  pub places : A.places < n
  pub broken : J.in_loop ≡ true → In n E.broken
  pub looped : J.in_loop ≡ true → In n E.looped
  pub cases : J.in_cases ≡ true → In n E.cases
  pub result : J.in_valof ≡ true → In n E.result
  pub labels : (l : ℕ) → has J.labels l ≡ true → In n (E.labels l)

pub in_loop : {A : Around} {J : Jumps} {E : Exits} {n : ℕ} (b l : ℕ) → In n b → In n l → Allowed A J E n → Allowed A (in_a_loop J) (record E { broken = b; looped = l }) n
in_loop b l hb hl a = record { places = a.places; broken = λ i. hb; looped = λ i. hl; cases = a.cases; result = a.result; labels = a.labels }

labelled_in : (f m n outer : ℕ) (known : Bool) (x : ℕ) → 1 ≤ f → f + m ≤ n → (known ≡ true → In n outer) → Labelled f (f + m) outer known x → In n x
labelled_in f m n outer known x l u k (inl h) = let h0 = h.0 in let h1 = h.1 in (omega arith, omega arith)
labelled_in f m n outer known x l u k (inr h) = subst (In n) (sym h.0) (k h.1)

pub list_labels : (is : Items) (f n : ℕ) (outer : ℕ → ℕ) (ks : List ℕ) → 1 ≤ f → f + labels_in is ≤ n → ((l : ℕ) → has ks l ≡ true → In n (outer l)) → (l : ℕ) → has (labels_of is ++ ks) l ≡ true → In n (labelled is f outer l)
list_labels is f n outer ks low high k l h = labelled_in f (labels_in is) n (outer l) (has ks l) (labelled is f outer l) low high (k l) (labelled_within is f outer ks l h)

pub in_a_list : {A : Around} {J : Jumps} {E : Exits} {n : ℕ} (is : Items) (f : ℕ) → 1 ≤ f → f + labels_in is ≤ n → Allowed A J E n → Allowed A (in_list is J) (record E { labels = labelled is f E.labels }) n
in_a_list {J = J} {E = E} {n = n} is f low high a =
    record { places = a.places; broken = a.broken; looped = a.looped; cases = a.cases; result = a.result; labels = list_labels is f n E.labels J.labels low high a.labels }

pub in_a_switch : {A : Around} {J : Jumps} {E : Exits} {n : ℕ} (is : Items) (f g : ℕ) → In n f → 1 ≤ g → g + labels_in is ≤ n → Allowed A J E n
    → Allowed A (in_list is (record J { in_cases = true })) (record E { cases = f; labels = labelled is g E.labels }) n
in_a_switch {J = J} {E = E} {n = n} is f g h low high a =
    record { places = a.places; broken = a.broken; looped = a.looped; cases = λ i. h; result = a.result; labels = list_labels is g n E.labels J.labels low high a.labels }

pub root_names : (A : Around) (n : ℕ) → A.places < n → (e : Exp) (s : ℕ) → root_fits A e s ≡ true → Names n e
root_names A n p e s h = exp_names A n p e s (right_true (nat_le (nodes e) most_nodes) (exp_fits A e s) h)

pub sides_name : (A : Around) (n : ℕ) → A.places < n → (v a : Exp) (s : ℕ) → assignment_fits A v a s ≡ true → Names n v × Names n a
sides_name A n p v a s h =
    let few = nat_le (nodes v + nodes a) most_nodes in
    let hv = exp_fits A v (side_level a s) in
    let ha = exp_fits A a (side_level a s) in
    (exp_names A n p v (side_level a s) (right_true few hv (left_true (few && hv) ha h)), exp_names A n p a (side_level a s) (right_true (few && hv) ha h))
