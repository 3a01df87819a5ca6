-- Each derivation is right, by induction over the derivation, with one line for each rule.
use Rattle.std.proofs.Common.{◌≡◌, ℕ, ◌+◌, ◌≤◌, Bool, true, false, Some, None, refl, subst}
use Rattle.std.specs.Prelude.{cond}
use Rattle.bc_word.specs.declared.operator.Op.{Op}
use Rattle.bc_word.specs.declared.operator.Op.TheVariants as operators
use Rattle.bc_text_items.specs.declared.item.Item.{Item}
use Rattle.bc_core.specs.Tree.{Exp, Args, count, Frame, Value, Test, Assign}
use Rattle.bc_core.specs.Level.{side_level}
use Rattle.bc_core.specs.Layout.{Bodies, cells_of_exp, cells_of_assignment}
use Rattle.bc_core.specs.Value.{Context, value, truth, assign}
use Rattle.bc_rules_defs.specs.declared.rule.Table.{Table}
use Rattle.bc_rules_defs.specs.declared.rule.Mode.{Mode}
use Rattle.bc_rules_defs.specs.declared.rule.Mode.TheVariants.{Any}
use Rattle.bc_rules_defs.specs.declared.rule.Aim.TheVariants.{Gets, Jumps}
use Rattle.bc_rules_defs.specs.Free.{is_zero, without_zero}
use Rattle.bc_rules_defs.specs.Rules.{Derives, v0, v1, v2, v3, v4, v6, v7, v8, v9, v10, v11, v12, v13, v14, v15, v16, v17, v18, v19, v20, v21, v22, v22_valof, j1, j2, j3, j4, j5, j6, j7, j8, j9, DerivesAll, no_more, one_more, RootDerives, a1, a2, a3}
use Rattle.bc_rules_defs.specs.Rules as rules
use Rattle.bc_rules_defs.specs.Code.{code, all_code, labels, all_labels, root_code, root_labels}
use Rattle.bc_gen_defs.specs.Bodies.{BodiesCode}
use Rattle.bc_right.specs.steps.Landing.{Moment, Later, Stands, Does}
use Rattle.bc_right.specs.steps.Goals.{value_goal, test_goal, end_goal}
use Rattle.bc_right.specs.steps.Premises.{Levelled, AllLevelled, CallLands, ValofsLand, StoresLast}
use Rattle.bc_right.specs.rules.Right.{DerivationsAreRight}
use Rattle.bc_right.proofs.rule_lemmas.Filling.{filled}
use Rattle.bc_right.proofs.rule_lemmas.Stretches.{as_value}
use Rattle.bc_right.proofs.rule_lemmas.Values.{Gives, v0_gives, v1_gives, v2_gives, v3_gives, v4_gives, v6_gives, v7_gives, v8_gives, v9_gives, v10_gives, v11_gives}
use Rattle.bc_right.proofs.rule_lemmas.Operators.{v12_gives, v13_gives, v14_gives, v15_gives, v16_gives, v17_gives, v18_gives, v19_gives}
use Rattle.bc_right.proofs.rule_lemmas.Tests.{Tests, j1_tests, j2_tests, j3_tests, j4_tests, j5_tests, j6_tests, j7_tests}
use Rattle.bc_right.proofs.rule_lemmas.Conditions.{j8_tests, j9_tests, v20_gives, v21_gives}
use Rattle.bc_right.proofs.rule_lemmas.Calls.{GivesAll, call_gives, valof_gives}
use Rattle.bc_right.proofs.rule_lemmas.Assignments.{a1_assigns, a2_assigns, a3_assigns, limit_stores, side_is, side_above}

-- the operand beside a 0 is one of the two sides
beside_levelled : (levels : ℕ → ℕ) (a b c : Exp) (s : ℕ) (here there : Bool) → cond here (Some a) (cond there (Some b) None) ≡ Some c → Levelled levels a s → Levelled levels b s → Levelled levels c s
beside_levelled levels a b c s true there e ha hb = let same : a ≡ c = cc in subst (λ z. Levelled levels z s) same ha
beside_levelled levels a b c s false true e ha hb = let same : b ≡ c = cc in subst (λ z. Levelled levels z s) same hb
beside_levelled levels a b c s false false e ha hb = absurd (let f : None ≡ Some c = e in cc)

without_levelled : (levels : ℕ → ℕ) (op : Op) (a b c : Exp) (s : ℕ) → without_zero op a b ≡ Some c → Levelled levels a s → Levelled levels b s → Levelled levels c s
without_levelled levels operators.Add a b c s e ha hb = beside_levelled levels a b c s (is_zero b) (is_zero a) e ha hb
without_levelled levels operators.Subtract a b c s e ha hb = beside_levelled levels a b c s (is_zero b) false e ha hb
without_levelled levels _ a b c s e ha hb = absurd (let f : None ≡ Some c = e in cc)

module _ (C : Context) (address levels : ℕ → ℕ) (V : Bodies) (S : Moment) (most : ℕ) (bodies : BodiesCode Item) (places : (l : ℕ) → address l ≡ C.place l)
    (works : (v : ℕ) → CallLands S most v (C.call v)) (valofs : ValofsLand address levels S most V bodies C.valof) where
  mutual
    pub gives : {T : Table} {e : Exp} {m : Mode} (d : Derives T e (Gets m)) (s t f : ℕ) → Levelled levels e s → Gives C address levels V S most bodies m e s (code d s t f)
    gives (v0 d) s t f l = v0_gives C address levels V S most bodies places (gives d s t f l)
    gives (v1 h) s t f l = v1_gives C address levels V S most bodies places h s
    gives (v2 d) s t f l = v2_gives C address levels V S most bodies places (gives d s t f l)
    gives (v3 d) s t f l = v3_gives C address levels V S most bodies places (gives d s t f l)
    gives (v4 d) s t f l = v4_gives C address levels V S most bodies places (gives d s t f l)
    gives (v6 h a) s t f l = v6_gives C address levels V S most bodies places h (gives a (s + 1) t f l.0)
    gives (v7 h free b) s t f l = v7_gives C address levels V S most bodies places h free (gives b (s + 1) t f l.1)
    gives (v8 {op = op} {a = a} {b = b} {c = c} h d) s t f l = v8_gives C address levels V S most bodies places h (gives d (s + 1) t f (without_levelled levels op a b c (s + 1) h l.0 l.1))
    gives (v9 a) s t f l = v9_gives C address levels V S most bodies places (gives a (s + 1) t f l.0)
    gives (v10 h a) s t f l = v10_gives C address levels V S most bodies places h (gives a (s + 1) t f l.0)
    gives (v11 h free b) s t f l = v11_gives C address levels V S most bodies places h free (gives b (s + 1) t f l.1)
    gives (v12 a b) s t f l = v12_gives C address levels V S most bodies (gives a (s + 1) t f l.0) (gives b (s + 1) t (f + labels a) l.1)
    gives (v13 h free b a) s t f l = v13_gives C address levels V S most bodies h free (gives b (s + 1) t f l.1) (gives a (s + 1) t (f + labels b) l.0)
    gives (v14 free b a) s t f l = v14_gives C address levels V S most bodies free (gives b (s + 1) t f l.1) (gives a (s + 1) t (f + labels b) l.0)
    gives (v15 h a b) s t f l = v15_gives C address levels V S most bodies h (gives a (s + 1) t f l.0) (gives b (s + 1) t (f + labels a) l.1)
    gives (v16 free b a) s t f l = v16_gives C address levels V S most bodies free (gives b (s + 1) t f l.1) (gives a (s + 1) t (f + labels b) l.0)
    gives (v17 a b) s t f l = v17_gives C address levels V S most bodies (gives a (s + 1) t f l.0) (gives b (s + 1) t (f + labels a) l.1)
    gives (v18 a b) s t f l = v18_gives C address levels V S most bodies (gives a (s + 1) t f l.0) (gives b (s + 1) t (f + labels a) l.1)
    gives (v19 a b) s t f l = v19_gives C address levels V S most bodies (gives a (s + 1) t f l.0) (gives b (s + 1) t (f + labels a) l.1)
    gives (v20 c x y) s t f l = v20_gives C address levels V S most bodies (f + 1) (tests c s f (f + 2) l.0) (gives x s t (f + 2 + labels c) l.1) (gives y s t (f + 2 + labels c + labels x) l.2)
    gives (v21 c y x) s t f l = v21_gives C address levels V S most bodies (f + 1) (tests c s f (f + 2) l.0) (gives y s t (f + 2 + labels c) l.2) (gives x s t (f + 2 + labels c + labels y) l.1)
    gives (v22 {es = es} ds r) s t f l = call_gives C address levels V S most bodies (all_code ds (s + 2) t f) works (gives_all ds (s + 2) t f l.0) (gives r (s + 2 + count es) t (f + all_labels ds) l.1)
    gives v22_valof s t f l = valof_gives C address levels V S most bodies f valofs l

    pub tests : {T : Table} {e : Exp} {sense : Bool} (d : Derives T e (Jumps sense)) (s t f : ℕ) → Levelled levels e s → Tests C address levels V S most bodies sense e s t (code d s t f)
    tests (j1 d) s t f l = j1_tests C address levels V S most bodies (tests d s t f l)
    tests (j2 a b) s t f l = j2_tests C address levels V S most bodies (tests a (s + 1) t f l.0) (tests b (s + 1) t (f + labels a) l.1)
    tests (j3 a b) s t f l = j3_tests C address levels V S most bodies (tests a (s + 1) f (f + 1) l.0) (tests b (s + 1) t (f + 1 + labels a) l.1)
    tests (j4 a b) s t f l = j4_tests C address levels V S most bodies (tests a (s + 1) t f l.0) (tests b (s + 1) t (f + labels a) l.1)
    tests (j5 a b) s t f l = j5_tests C address levels V S most bodies (tests a (s + 1) f (f + 1) l.0) (tests b (s + 1) t (f + 1 + labels a) l.1)
    tests (j6 h d) s t f l = j6_tests C address levels V S most bodies t h (gives d s t f l)
    tests (j7 {n = n} {sense = sense}) s t f l = j7_tests C address levels V S most bodies n sense s t
    tests (j8 {a = a} {b = b} {c = c} h k d) s t f l = j8_tests C address levels V S most bodies t k (gives d (s + 1) t f (beside_levelled levels a b c (s + 1) (is_zero b) (is_zero a) k l.0 l.1))
    tests (j9 {a = a} {b = b} {c = c} h k d) s t f l = j9_tests C address levels V S most bodies t k (gives d (s + 1) t f (beside_levelled levels a b c (s + 1) (is_zero b) (is_zero a) k l.0 l.1))

    gives_all : {T : Table} {es : Args} (ds : DerivesAll T es) (s t f : ℕ) → AllLevelled levels es s → GivesAll C address levels V S most bodies es s (all_code ds s t f)
    gives_all no_more s t f l = refl
    gives_all (one_more d ds) s t f l = (code d s t f, all_code ds (s + 1) t (f + labels d), refl, gives d s t f l.0, gives_all ds (s + 1) t (f + labels d) l.1)

  value_right : {T : Table} {s : ℕ} {e : Exp} (d : RootDerives T (Value s e)) → Levelled levels e s → (K : Moment) → Later S K → (p t f g a c end limit : ℕ) → Stands address S c (filled levels bodies (root_code d t f) g) end → p + cells_of_exp V e s ≤ 65536
      → Does K most (p + s) p limit a c (value_goal end) (value C e p s)
  value_right {s = s} {e = e} (rules.value d) l K old p t f g a c end limit st room = as_value Any a end (value C e p s) ((gives d s t f l).does K old p a c end limit g st room)

  test_right : {T : Table} {s : ℕ} {sense : Bool} {e : Exp} (d : RootDerives T (Test s sense e)) → Levelled levels e s → (K : Moment) → Later S K → (p t f g a c end limit : ℕ) → Stands address S c (filled levels bodies (root_code d t f) g) end → p + cells_of_exp V e s ≤ 65536
      → Does K most (p + s) p limit a c (test_goal sense (address t) end) (truth C e p s)
  test_right {s = s} (rules.test d) l K old p t f g a c end limit st room = (tests d s t f l).does K old p a c end limit g st room

  pub assign_right : {T : Table} {s : ℕ} {e h : Exp} (d : RootDerives T (Assign s e h)) → Levelled levels e (side_level h s) → Levelled levels h (side_level h s) → (K : Moment) → Later S K → (p t f g a c end limit : ℕ) → Stands address S c (filled levels bodies (root_code d t f) g) end → p + cells_of_assignment V e h s ≤ 65536
      → Does K most (p + s) p limit a c (end_goal end) (assign C e h p s)
  assign_right {s = s} {e = e} {h = h} (a1 {o = o} is v) le lh K old p t f g a c end limit st room =
      a1_assigns C address levels V S most bodies places h is (gives v s t f (subst (λ z. Levelled levels e z) (side_is h o s is) le)) K old p a c end limit g st room
  assign_right {s = s} {e = e} {h = h} (a2 none free x y) le lh K old p t f g a c end limit st room =
      let side = side_above h s none in
      a2_assigns C address levels V S most bodies places s none free (gives x (s + 1) t f (subst (λ z. Levelled levels h z) side lh)) (gives y (s + 1) t (f + labels x) (subst (λ z. Levelled levels e z) side le)) K old p a c end limit g st room
  assign_right {s = s} {e = e} {h = h} (a3 none x y) le lh K old p t f g a c end limit st room =
      let side = side_above h s none in
      a3_assigns C address levels V S most bodies places s none (gives x (s + 1) t f (subst (λ z. Levelled levels e z) side le)) (gives y (s + 1) t (f + labels x) (subst (λ z. Levelled levels h z) side lh)) K old p a c end limit g st room

  pub limit_right : {T : Table} {s k : ℕ} {e : Exp} (d : RootDerives T (Assign s e (Frame k))) → Levelled levels e s → (K : Moment) → Later S K → (p t f g a c end limit : ℕ) → Stands address S c (filled levels bodies (root_code d t f) g) end → p + cells_of_exp V e s ≤ 65536
      → StoresLast address S K most (p + s) p limit a c k end (value C e p s)
  limit_right {s = s} (a1 is v) l K old p t f g a c end limit st room = limit_stores C address levels V S most bodies places is (gives v s t f l) K old p a c end limit g st room
  limit_right (a2 none free x y) l K old p t f g a c end limit st room = absurd (let h : Some _ ≡ None = none in cc)
  limit_right (a3 none x y) l K old p t f g a c end limit st room = absurd (let h : Some _ ≡ None = none in cc)

pub derivations_are_right : DerivationsAreRight
derivations_are_right T choice address levels S = record {
  from = λ most C V bodies places works valofs. record {
    gives = λ K old e p s first a c end limit st room l.
        let d = choice (Value s e) in value_right C address levels V S most bodies places works valofs d l K old p 0 first (first + root_labels d) a c end limit st room;
    tests = λ K old sense e p s target first a c end limit st room l.
        let d = choice (Test s sense e) in test_right C address levels V S most bodies places works valofs d l K old p target first (first + root_labels d) a c end limit st room;
    assigns = λ K old e h p s first a c end limit st room le lh.
        let d = choice (Assign s e h) in assign_right C address levels V S most bodies places works valofs d le lh K old p 0 first (first + root_labels d) a c end limit st room;
    limits = λ K old e p s first a c end limit st room l.
        let d = choice (Assign (s + 2) e (Frame (s + 1))) in limit_right C address levels V S most bodies places works valofs d l K old p 0 first (first + root_labels d) a c end limit st room;
  };
}
