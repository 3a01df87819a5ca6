-- What is known of the store in a frame.
use Rattle.std.proofs.Common.{◌≡◌, ℕ, ◌+◌, ◌<◌, ◌≤◌, List, [], ◌∷◌, Bool, true, false, Option, Some, ◌∙◌, arith}
use Rattle.bc_core.specs.Words.{string_words}
use Rattle.bc_tame.specs.Tame.{Held, Nothing, ACell, AnyWord, StringAt, VectorOf, TableAt, Between, Knows, Env}
use Rattle.bc_tame.proofs.Fine.{Keeps, Kind, Gone, Sets, Fixed, Readable, Writable, Shape}

-- cells that are never assigned
abbrev pub HoldsWords : Shape → ℕ → List ℕ → Type 0
HoldsWords σ a [] = Unit {0}
HoldsWords σ a (w ∷ ws) = (σ a ≡ Fixed w) × HoldsWords σ (a + 1) ws

-- globals, statics and tables are set, and the globals that may not be assigned have their first values
pub record Ground (fixed static : ℕ → Bool) (table : ℕ → ℕ) (text : ℕ → Option (List ℕ)) (place : ℕ → ℕ) (σ : Shape) : Type 0 where
  pub assigned : (n : ℕ) → n < 512 → fixed n ≡ false → σ (8 + n) ≡ Sets
  pub held : (n : ℕ) → n < 512 → fixed n ≡ true → (w : ℕ) × (σ (8 + n) ≡ Fixed w)
  pub statics : (m : ℕ) → static m ≡ true → σ (place m) ≡ Sets
  pub tables : (m i : ℕ) → i < table m → (σ (place m + i) ≡ Sets) × (place m + i < 65536)
  pub texts : (m : ℕ) (bytes : List ℕ) → text m ≡ Some bytes → HoldsWords σ (place m) (string_words bytes)

pub words_kept : (σ τ : Shape) → Keeps σ τ → (a : ℕ) (ws : List ℕ) → HoldsWords σ a ws → HoldsWords τ a ws
words_kept σ τ k a [] h = tt
words_kept σ τ k a (w ∷ ws) h = (k.keeps a (rw h.0 tt) ∙ h.0, words_kept σ τ k (a + 1) ws h.1)

pub ground_kept : (fixed static : ℕ → Bool) (table : ℕ → ℕ) (text : ℕ → Option (List ℕ)) (place : ℕ → ℕ) (σ τ : Shape) → Keeps σ τ → Ground fixed static table text place σ → Ground fixed static table text place τ
ground_kept fixed static table text place σ τ k g = record {
  assigned = λ n lt e. k.keeps (8 + n) (rw (g.assigned n lt e) tt) ∙ g.assigned n lt e;
  held = λ n lt e. let h = g.held n lt e in (h.0, k.keeps (8 + n) (rw h.1 tt) ∙ h.1);
  statics = λ m e. k.keeps (place m) (rw (g.statics m e) tt) ∙ g.statics m e;
  tables = λ m i lt. let t = g.tables m i lt in (k.keeps (place m + i) (rw t.0 tt) ∙ t.0, t.1);
  texts = λ m bytes e. words_kept σ τ k (place m) _ (g.texts m bytes e);
}

-- what is known of the cell at an address of the frame
pub record Counter (k : Kind) (least greatest : ℕ) : Type 0 where
  pub word : ℕ
  pub low : least ≤ word
  pub high : word ≤ greatest
  pub small : word < 65536
  pub there : k ≡ Fixed word

abbrev pub HoldsAt : (text : ℕ → Option (List ℕ)) (place : ℕ → ℕ) (k : Kind) (a : ℕ) → Held → Type 0
HoldsAt text place k a Nothing = Unit {0}
HoldsAt text place k a ACell = Writable k × (a < 65536)
HoldsAt text place k a AnyWord = (k ≡ Sets) × (a < 65536)
HoldsAt text place k a (StringAt m) = (k ≡ Fixed (place m)) × ((a < 65536) × ((bytes : List ℕ) × (text m ≡ Some bytes)))
HoldsAt text place k a (VectorOf n) = (k ≡ Fixed (a + 1)) × (a + 1 < 65536)
HoldsAt text place k a (TableAt m) = (k ≡ Fixed (place m)) × (a < 65536)
HoldsAt text place k a (Between least greatest) = Counter k least greatest × (a < 65536)

-- In the frame at p at level s. γ is a shape of the store as the run begins, for all sections: a call needs what is readable there, and
-- nothing of the frame is.
pub record Around (E : Env) (place : ℕ → ℕ) (γ : Shape) (R : Knows) (p s : ℕ) (σ : Shape) : Type 0 where
  pub ground : Ground E.fixed E.static E.table E.text place γ
  pub keeps : Keeps γ σ
  pub none : (a : ℕ) → p ≤ a → Readable (γ a) → ⊥
  pub holds : (j : ℕ) → HoldsAt E.text place (σ (p + j)) (p + j) (R j)
  pub gone : (a : ℕ) → p + s ≤ a → σ a ≡ Gone
  pub room : p + E.size ≤ 65536

pub grounded : (E : Env) (place : ℕ → ℕ) (γ : Shape) (R : Knows) (p s : ℕ) (σ : Shape) → Around E place γ R p s σ → Ground E.fixed E.static E.table E.text place σ
grounded E place γ R p s σ h = ground_kept E.fixed E.static E.table E.text place γ σ h.keeps h.ground

pub higher : (E : Env) (place : ℕ → ℕ) (γ : Shape) (R : Knows) (p s t : ℕ) (σ : Shape) → s ≤ t → Around E place γ R p s σ → Around E place γ R p t σ
higher E place γ R p s t σ le h = record { ground = h.ground; keeps = h.keeps; none = h.none; holds = h.holds; gone = λ a up. h.gone a (omega arith); room = h.room }
