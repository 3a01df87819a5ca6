-- Each kind of line is read exactly if the line, with its LF, is the text of what was read.
use Rattle.std.proofs.Common.{◌≡◌, ⊎_elim, ℕ, ◌<◌, ◌==◌, List, [], ◌∷◌, ◌++◌, length, get_or, Option, Some, None, refl, ap, ap₂, sym, ◌∙◌, arith}
use Rattle.std.specs.List.{AllByRecursion}
use Rattle.std.specs.Fmt.{decimal}
use Rattle.std.proofs.lemmas.Bool.{eqb-true}
use Rattle.std.proofs.lemmas.Fmt.{decimal_nonempty}
use Rattle.std.proofs.lemmas.List.{append_cancel_right}
use Rattle.bc_rules_defs.specs.declared.rule.Table.{Table}
use Rattle.bc_rules_defs.specs.declared.rule.Table.TheVariants.{One, Two}
use Rattle.bc_cert_defs.specs.Text.{header_line, end_line as end_text}
use Rattle.bc_cert_write.specs.Lines.{line, words_field}
use Rattle.bc_cert_defs.specs.declared.costs.Costs.{Costs}
use Rattle.bc_cert_read.specs.declared.form.Form.{Form}
use Rattle.bc_cert_defs.specs.declared.head.Head.{Head}
use Rattle.bc_cert_read.specs.declared.lines.NodeLine.{NodeLine}
use Rattle.bc_cert_read.specs.declared.lines.RootLine.{RootLine}
use Rattle.bc_cert_read.specs.Fields.{◌>>=◌, field, following, number, small, level, number_or_none}
use Rattle.bc_cert_read.specs.Chains.{rules}
use Rattle.bc_cert_read.specs.Lines.{table_of, after_byte, after_bytes, header, entry_line, end_line, form, node_line}
use Rattle.bc_cert_laws.specs.Entries.{IsNumber, IsLevel}
use Rattle.bc_cert_laws.specs.Faults.{HeadHasRoom, head_line, Name, IsName, names_field, CostsHaveRoom}
use Rattle.bc_cert_laws.specs.Standing.{AreNamed, form_text, FormIsSmall, root_text}
use Rattle.bc_cert_laws.proofs.Numbers.{got, chosen, passed, number_read, number_back, small_read, small_back, level_read, level_back, words_read, words_back, decimal_digits, Digits}
use Rattle.bc_cert_laws.proofs.Fields.{Without, without, field_read, field_back, after_read, line_from, line_to, IsOneLine, line_ends}
use Rattle.bc_cert_laws.proofs.Forms.{at_same, form_read, form_back, form_above, number_above, number_bytes, words_above}
use Rattle.bc_cert_laws.proofs.Names.{rules_read, rules_back}
use Rattle.bc_cert_laws.proofs.Roots.{root_begins}
pub use Rattle.bc_cert_laws.proofs.Pieces.{code_read, code_back, code_ends}
pub use Rattle.bc_cert_laws.proofs.Roots.{root_read, root_back, root_ends}
pub use Rattle.bc_cert_laws.proofs.Written.{rule_is_name, rules_are_names, rules_field_is, node_ends}

-- the header
after_byte_read : (b : ℕ) (text rest : List ℕ) → after_byte b text ≡ Some rest → text ≡ b ∷ rest
after_byte_read b [] rest h = absurd (cc)
after_byte_read b (c ∷ cs) rest h = let p = passed (c == b) (Some cs) rest h in let e = eqb-true c b p.0 in cc

after_bytes_read : (bs text rest : List ℕ) → after_bytes bs text ≡ Some rest → text ≡ bs ++ rest
after_bytes_read [] text rest h = cc
after_bytes_read (b ∷ bs) text rest h =
    let p = got (after_byte b text) (λ t. after_bytes bs t) rest h in
    after_byte_read b text p.0 p.1 ∙ ap (λ t. b ∷ t) (after_bytes_read bs p.0 rest p.2)

abbrev title : List ℕ
title = 66 ∷ 67 ∷ 80 ∷ 76 ∷ 67 ∷ 69 ∷ 82 ∷ 84 ∷ 32 ∷ []

table_read : (text : List ℕ) (T : Table) → table_of text ≡ Some T → title ++ (text ++ 10 ∷ []) ≡ header_line T
table_read [] T h = absurd (cc)
table_read (b ∷ []) T h =
    ⊎_elim
    (λ p. at_same (λ t. title ++ b ∷ 10 ∷ [] ≡ header_line t) One T p.1 (ap (λ c. title ++ c ∷ 10 ∷ []) (eqb-true b 49 p.0)))
    (λ p. let q = passed (b == 50) (Some Two) T p.1 in at_same (λ t. title ++ b ∷ 10 ∷ [] ≡ header_line t) Two T q.1 (ap (λ c. title ++ c ∷ 10 ∷ []) (eqb-true b 50 q.0)))
    (chosen (b == 49) (Some One) _ T h)
table_read (b ∷ c ∷ bs) T h = absurd (cc)

pub header_read : (l : List ℕ) (T : Table) → header l ≡ Some T → l ++ 10 ∷ [] ≡ header_line T
header_read l T h =
    let p = got (after_bytes title l) (λ rest. table_of rest) T h in
    ap (λ t. t ++ 10 ∷ []) (after_bytes_read title l p.0 p.1) ∙ table_read p.0 T p.2

pub header_back : (l : List ℕ) (T : Table) → l ++ 10 ∷ [] ≡ header_line T → header l ≡ Some T
header_back l One e = ap header (append_cancel_right l (title ++ 49 ∷ []) (10 ∷ []) e)
header_back l Two e = ap header (append_cancel_right l (title ++ 50 ∷ []) (10 ∷ []) e)

pub header_ends : (T : Table) → IsOneLine (header_line T)
header_ends One = (title ++ 49 ∷ [], refl, refl)
header_ends Two = (title ++ 50 ∷ [], refl, refl)

-- a field, and those after it
next : (text : List ℕ) (p : List ℕ × List ℕ) (f rest : List ℕ) → field text ≡ Some p → p.0 ≡ f → p.1 ≡ rest → text ≡ f ++ 32 ∷ rest
next text p f rest h e k = field_read text p.0 p.1 h ∙ ap₂ (λ x y. x ++ 32 ∷ y) e k

-- a step, and the rest of the line
then : {A B : Type 0} {o : Option A} {a : A} {b : B} (f : A → Option B) → o ≡ Some a → f a ≡ Some b → o >>= f ≡ Some b
then f h k = ap (λ x. x >>= f) h ∙ k

after_step : {A B G : Type 0} (o : Option A) (f : A → Option B) (b : B) → o >>= f ≡ Some b → ((a : A) → o ≡ Some a → f a ≡ Some b → G) → G
after_step o f b h k = let p = got o f b h in k p.0 p.1 p.2

number_without : (n : ℕ) → IsNumber n → Without 32 (decimal n)
number_without n h = without 32 32 (omega arith) (decimal n) (number_above 32 n (omega arith) h)

-- an entry's first line
abbrev head_fields : Head → List (List ℕ)
head_fields h = decimal h.segment ∷ decimal h.item ∷ decimal h.target ∷ decimal h.first ∷ decimal h.words ∷ []

pub entry_read : (l : List ℕ) (h : Head) → entry_line l ≡ Some h → (l ++ 10 ∷ [] ≡ head_line h) × HeadHasRoom h
entry_read l h k =
    after_step (following l 69) _ h k (λ text is k.
    after_step (field text) _ h k (λ segment_field is1 k.
    after_step (field segment_field.1) _ h k (λ item_field is2 k.
    after_step (field item_field.1) _ h k (λ target_field is3 k.
    after_step (field target_field.1) _ h k (λ first_field is4 k.
    after_step (number segment_field.0) _ h k (λ segment n1 k.
    after_step (number item_field.0) _ h k (λ item n2 k.
    after_step (small target_field.0) _ h k (λ target n3 k.
    after_step (small first_field.0) _ h k (λ first n4 k.
    after_step (number first_field.1) _ h k (λ words n5 k.
    let r1 = number_read segment segment_field.0 n1 in
    let r2 = number_read item item_field.0 n2 in
    let r3 = small_read target target_field.0 n3 in
    let r4 = small_read first first_field.0 n4 in
    let r5 = number_read words first_field.1 n5 in
    let fields =
    next text segment_field (decimal segment) _ is1 r1.0
    (next segment_field.1 item_field (decimal item) _ is2 r2.0
    (next item_field.1 target_field (decimal target) _ is3 r3.0
    (next target_field.1 first_field (decimal first) (decimal words) is4 r4.0 r5.0))) in
    at_same (λ x. (l ++ 10 ∷ [] ≡ head_line x) × HeadHasRoom x) (record { segment = segment; item = item; target = target; first = first; words = words }) h k (
      line_from l (69 ∷ []) (decimal segment ∷ decimal item ∷ decimal target ∷ decimal first ∷ decimal words ∷ []) (after_read 69 l text is ∙ ap (λ t. 69 ∷ 32 ∷ t) fields),
      record { segment = r1.1; item = r2.1; target = r3.1; first = r4.1; words = r5.1 },
    )))))))))))

pub entry_back : (l : List ℕ) (h : Head) → HeadHasRoom h → l ++ 10 ∷ [] ≡ head_line h → entry_line l ≡ Some h
entry_back l h r e =
    ap entry_line (line_to l (69 ∷ []) (head_fields h) e)
    ∙ then _ (field_back (decimal h.segment) _ (number_without h.segment r.segment))
    (then _ (field_back (decimal h.item) _ (number_without h.item r.item))
    (then _ (field_back (decimal h.target) _ (number_without h.target (omega (arith, r.target))))
    (then _ (field_back (decimal h.first) _ (number_without h.first (omega (arith, r.first))))
    (then _ (number_back h.segment r.segment)
    (then _ (number_back h.item r.item)
    (then _ (small_back h.target r.target)
    (then _ (small_back h.first r.first)
    (then _ (number_back h.words r.words) refl))))))))

pub entry_ends : (h : Head) → HeadHasRoom h → IsOneLine (head_line h)
entry_ends h r =
    line_ends (69 ∷ []) (head_fields h) (
      (omega arith, tt),
      (number_bytes h.segment r.segment, (number_bytes h.item r.item, (number_bytes h.target (omega (arith, r.target)), (number_bytes h.first (omega (arith, r.first)), (number_bytes h.words r.words, tt))))),
    )

-- the last line
pub end_read : (l : List ℕ) (n : ℕ) → end_line l ≡ Some n → (l ++ 10 ∷ [] ≡ end_text n) × IsNumber n
end_read l n h =
    let p = got (following l 90) (λ text. number text) n h in
    let r = number_read n p.0 p.2 in
    (line_from l (90 ∷ []) (decimal n ∷ []) (after_read 90 l p.0 p.1 ∙ ap (λ t. 90 ∷ 32 ∷ t) r.0), r.1)

pub end_back : (l : List ℕ) (n : ℕ) → IsNumber n → l ++ 10 ∷ [] ≡ end_text n → end_line l ≡ Some n
end_back l n r e = ap end_line (line_to l (90 ∷ []) (decimal n ∷ []) e) ∙ number_back n r

pub end_ends : (n : ℕ) → IsNumber n → IsOneLine (end_text n)
end_ends n h = line_ends (90 ∷ []) (decimal n ∷ []) ((omega arith, tt), (number_bytes n h, tt))

-- a node line
abbrev node_fields : Form → Costs → List Name → List (List ℕ)
node_fields f c names = form_text f ∷ decimal c.any ∷ words_field c.push ∷ decimal c.on_false ∷ decimal c.on_true ∷ names_field names ∷ []

pub record NodeRead (n : NodeLine) (l : List ℕ) : Type 0 where
  pub names : List Name
  pub level : IsLevel n.level
  pub form : FormIsSmall n.form
  pub costs : CostsHaveRoom n.costs
  pub room : AllByRecursion IsName names
  pub is : l ++ 10 ∷ [] ≡ line (decimal n.level) (form_text n.form ∷ decimal n.costs.any ∷ words_field n.costs.push ∷ decimal n.costs.on_false ∷ decimal n.costs.on_true ∷ names_field names ∷ [])
  pub rules : AreNamed names n.rules

pub node_read : (l : List ℕ) (n : NodeLine) → node_line l ≡ Some n → NodeRead n l
node_read l n k =
    after_step (field l) _ n k (λ level_field is1 k.
    after_step (field level_field.1) _ n k (λ form_field is2 k.
    after_step (field form_field.1) _ n k (λ any_field is3 k.
    after_step (field any_field.1) _ n k (λ push_field is4 k.
    after_step (field push_field.1) _ n k (λ false_field is5 k.
    after_step (field false_field.1) _ n k (λ true_field is6 k.
    after_step (level level_field.0) _ n k (λ s n1 k.
    after_step (form form_field.0) _ n k (λ f n2 k.
    after_step (number any_field.0) _ n k (λ any n3 k.
    after_step (number_or_none push_field.0) _ n k (λ push n4 k.
    after_step (number false_field.0) _ n k (λ on_false n5 k.
    after_step (number true_field.0) _ n k (λ on_true n6 k.
    after_step (rules true_field.1) _ n k (λ rs n7 k.
    let r1 = level_read s level_field.0 n1 in
    let r2 = form_read form_field.0 f n2 in
    let r3 = number_read any any_field.0 n3 in
    let r4 = words_read push push_field.0 n4 in
    let r5 = number_read on_false false_field.0 n5 in
    let r6 = number_read on_true true_field.0 n6 in
    let r7 = rules_read true_field.1 rs n7 in
    let c : Costs = record { any = any; push = push; on_false = on_false; on_true = on_true } in
    let fields =
    next l level_field (decimal s) _ is1 r1.0
    (next level_field.1 form_field (form_text f) _ is2 r2.0
    (next form_field.1 any_field (decimal any) _ is3 r3.0
    (next any_field.1 push_field (words_field push) _ is4 r4.0
    (next push_field.1 false_field (decimal on_false) _ is5 r5.0
    (next false_field.1 true_field (decimal on_true) (names_field r7.names) is6 r6.0 r7.is))))) in
    at_same (λ x. NodeRead x l) (record { level = s; form = f; costs = c; rules = rs }) n k
    (record {
      names = r7.names;
      level = r1.1;
      form = r2.1;
      costs = record { any = r3.1; push = r4.1; on_false = r5.1; on_true = r6.1 };
      room = r7.room;
      is = line_from l (decimal s) (node_fields f c r7.names) fields;
      rules = r7.rules;
    }))))))))))))))

-- what a line of this text is read as
pub record NodeBack (l : List ℕ) (s : ℕ) (f : Form) (c : Costs) (names : List Name) : Type 0 where
  pub node : NodeLine
  pub is : node_line l ≡ Some node
  pub level : node.level ≡ s
  pub form : node.form ≡ f
  pub costs : node.costs ≡ c
  pub rules : AreNamed names node.rules

pub node_back : (l : List ℕ) (s : ℕ) (f : Form) (c : Costs) (names : List Name) → IsLevel s → FormIsSmall f → CostsHaveRoom c → AllByRecursion IsName names
    → l ++ 10 ∷ [] ≡ line (decimal s) (form_text f ∷ decimal c.any ∷ words_field c.push ∷ decimal c.on_false ∷ decimal c.on_true ∷ names_field names ∷ []) → NodeBack l s f c names
node_back l s f c names h i r k e =
    let rs = rules_back names k in
    record {
      node = record { level = s; form = f; costs = c; rules = rs.0 };
      is = ap node_line (line_to l (decimal s) (node_fields f c names) e)
          ∙ then _ (field_back (decimal s) _ (number_without s (omega arith)))
          (then _ (field_back (form_text f) _ (without 32 32 (omega arith) (form_text f) (form_above f i)))
          (then _ (field_back (decimal c.any) _ (number_without c.any r.any))
          (then _ (field_back (words_field c.push) _ (without 32 32 (omega arith) (words_field c.push) (words_above c.push r.push)))
          (then _ (field_back (decimal c.on_false) _ (number_without c.on_false r.on_false))
          (then _ (field_back (decimal c.on_true) _ (number_without c.on_true r.on_true))
          (then _ (level_back s h)
          (then _ (form_back f i)
          (then _ (number_back c.any r.any)
          (then _ (words_back c.push r.push)
          (then _ (number_back c.on_false r.on_false)
          (then _ (number_back c.on_true r.on_true)
          (then _ rs.1 refl))))))))))));
      level = refl;
      form = refl;
      costs = refl;
      rules = rs.2;
    }

-- lines of different kinds
none_of : {A : Type 0} (o : Option A) → ((a : A) → ¬ (o ≡ Some a)) → o ≡ None
none_of None h = refl
none_of (Some a) h = absurd (h a refl)

no_digit : (b : ℕ) (bs rest more : List ℕ) → 57 < b → Digits bs → 0 < length bs → ¬ (b ∷ rest ≡ bs ++ more)
no_digit b [] rest more h d n e = omega arith
no_digit b (c ∷ cs) rest more h d n e = let s : b ≡ c = cc in omega (arith, d.0)

pub node_no_root : (l : List ℕ) (r : RootLine) → l ++ 10 ∷ [] ≡ root_text r → node_line l ≡ None
node_no_root l r e =
    none_of (node_line l) (λ n h.
    let p = node_read l n h in
    let b = root_begins r in
    let small : IsNumber n.level = omega (arith, p.level) in
    no_digit 82 (decimal n.level) b.0 _ (omega arith) (decimal_digits n.level small) (decimal_nonempty n.level small) (sym b.1 ∙ sym e ∙ p.is))

pub end_no_entry : (l : List ℕ) (n : ℕ) → l ++ 10 ∷ [] ≡ end_text n → entry_line l ≡ None
end_no_entry l n e = none_of (entry_line l) (λ h k. let p = entry_read l h k in let c : 90 ≡ 69 = ap (λ t. get_or t 0 0) (sym e ∙ p.0) in omega arith)
