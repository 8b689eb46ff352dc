-- The steps of a call, in the order in which they happen, are the steps of its lines.
use Rattle.std.proofs.Common.{append_assoc, ◌≡◌, ℕ, ◌+◌, Bool, true, false, cond, List, [], ◌∷◌, ◌++◌, take, drop, map, refl, sym, ap, ◌∙◌, subst, arith, append-nil}
use Rattle.std.specs.Prelude.{if◌then◌else◌}
use Rattle.std.specs.List.{AllByRecursion, flat_map, sum_by}
use Rattle.std.proofs.lemmas.List.{take-append-drop}
use Rattle.std.proofs.lemmas.List.Sums.{sum_by-append}
use Rattle.std.proofs.lemmas.Grind.{flat_map-append}
use Rattle.key_names.specs.declared.point.Point.{Point}
use Rattle.key_names.specs.declared.point.Point.TheVariants.{Start, Written, Serve, End}
use Rattle.key_names.specs.Callers.Calls.{Call, alone, vread_call, unbound, ending, BoundAct}
use Rattle.key_names.specs.Callers.History.{is_mark}
use Rattle.key_names.specs.Kernel.Points.{is_same_point}
use Rattle.caller_run.specs.Items.{Item, line_items, cut_items, cut_rekey, items_at_point, vread_items, call_items}
use Rattle.key_names.specs.Transcripts.SeenLine.{SeenLine}
use Rattle.key_names.proofs.Lists.Each.{each_append, each_left, each_right}
use Rattle.caller_run.specs.Done.{lines_in_order}

-- the items (numbered steps) of `lines`, line after line
abbrev pub lines_items : List SeenLine → List Item
lines_items lines = flat_map line_items lines

-- the two parts that `cut_items` gives, one after the other, are the whole list
cut_whole : (items : List Item) → items ≡ (cut_items items).0 ++ (cut_items items).1
cut_whole [] = refl
cut_whole (item ∷ items) = go (is_mark item.step) (cut_whole items)
  where
    go : (b : Bool) → items ≡ (cut_items items).0 ++ (cut_items items).1 →
        let cut : List Item × List Item =
        (if b then (item ∷ (cut_items items).0, (cut_items items).1) else ([], item ∷ items)) in
        item ∷ items ≡ cut.0 ++ cut.1
    go true rest = ap (λ (l : List Item). item ∷ l) rest
    go false rest = refl

pub rekey_whole : (items : List Item) → items ≡ (cut_rekey items).0 ++ (cut_rekey items).1
rekey_whole [] = refl
rekey_whole (a ∷ []) = refl
rekey_whole (a ∷ b ∷ []) = refl
rekey_whole (a ∷ b ∷ c ∷ items) = go (is_mark c.step)
  where
    go : (by : Bool) →
        let cut : List Item × List Item =
        (if by then (a ∷ b ∷ (cut_items (c ∷ items)).0, (cut_items (c ∷ items)).1) else ([], a ∷ b ∷ c ∷ items)) in
        a ∷ b ∷ c ∷ items ≡ cut.0 ++ cut.1
    go true = ap (λ (l : List Item). a ∷ b ∷ l) (cut_whole (c ∷ items))
    go false = refl

-- if `a` and `b` are empty, they can be left out of this concatenation
pub no_steps : (xs ys a b front : List Item) → a ≡ [] → b ≡ [] → (((front ++ xs) ++ a) ++ b) ++ ys ≡ front ++ (xs ++ ys)
no_steps xs ys a b front e f = (λ i. (((front ++ xs) ++ e i) ++ f i) ++ ys) ∙ simp append-nil (append_assoc front xs ys)

-- if no act has steps at the points Serve and End, the steps of the vread after its two looks need not be cut
pub no_late : (items : List Item) (acts : List BoundAct) → items_at_point acts Serve ≡ [] →
    items_at_point acts End ≡ [] →
    vread_items items acts ≡ (take 2 items ++ items_at_point acts Start ++ items_at_point acts Written) ++ drop 2 items
no_late items acts e f =
    let cut = cut_rekey (drop 2 items) in
    let front : List Item = take 2 items ++ items_at_point acts Start ++ items_at_point acts Written in
    no_steps cut.0 cut.1 (items_at_point acts Serve) (items_at_point acts End) front e f
    ∙ ap (λ (l : List Item). front ++ l) (sym (rekey_whole (drop 2 items)))

-- if no act has steps, the steps of the vread are exactly the steps of its own line
pub own_items : (items : List Item) (acts : List BoundAct) → ((p : Point) → items_at_point acts p ≡ []) →
    vread_items items acts ≡ items
own_items items acts none =
    no_late items acts (none Serve) (none End)
    ∙ (λ i. (take 2 items ++ none Start i ++ none Written i) ++ drop 2 items)
    ∙ simp append-nil (take-append-drop 2 items)

abbrev pub act_line : BoundAct → SeenLine
act_line bound = bound.line

-- suppose that each item has the weight that f gives it
module _ (f : Item → ℕ) where
  abbrev weight : List Item → ℕ
  weight items = sum_by f items

  -- the weight that an act at point p with weight w adds at `point`: w if p is `point`, and otherwise 0
  abbrev weight_at : Point → ℕ → Point → ℕ
  weight_at p w point = cond (is_same_point p point) w 0

  at_one : (p : Point) (w : ℕ) →
      weight_at p w Start + (weight_at p w Written + (weight_at p w Serve + weight_at p w End)) ≡ w
  at_one Start w = omega arith
  at_one Written w = omega arith
  at_one Serve w = omega arith
  at_one End w = omega arith

  point_weight : (bound : BoundAct) (acts : List BoundAct) (point : Point) →
      weight (items_at_point (bound ∷ acts) point)
      ≡ weight_at bound.point (weight (line_items bound.line)) point + weight (items_at_point acts point)
  point_weight bound acts point = go (is_same_point bound.point point)
    where
      go : (b : Bool) → weight (if b then line_items bound.line
          ++ items_at_point acts point else items_at_point acts point)
          ≡ cond b (weight (line_items bound.line)) 0 + weight (items_at_point acts point)
      go true = sum_by-append f (line_items bound.line) (items_at_point acts point)
      go false = omega arith

  acts_weight : (acts : List BoundAct) →
      weight (items_at_point acts Start) + (weight (items_at_point acts Written)
      + (weight (items_at_point acts Serve) + weight (items_at_point acts End)))
      ≡ weight (lines_items (map act_line acts))
  acts_weight [] = refl
  acts_weight (bound ∷ acts) =
      let w : ℕ = weight (line_items bound.line) in
      let one = at_one bound.point w in
      let rest = acts_weight acts in
      let a = point_weight bound acts Start in
      let b = point_weight bound acts Written in
      let c = point_weight bound acts Serve in
      let d = point_weight bound acts End in
      let e : weight (lines_items (map act_line (bound ∷ acts))) ≡ w + weight (lines_items (map act_line acts)) =
      sum_by-append f (line_items bound.line) (lines_items (map act_line acts)) in omega arith

  pub vread_weight : (items : List Item) (acts : List BoundAct) →
      weight (vread_items items acts) ≡ weight (lines_items (map act_line acts)) + weight items
  vread_weight items acts =
      let a1 : List Item = items_at_point acts Start in
      let a2 : List Item = items_at_point acts Written in
      let a3 : List Item = items_at_point acts Serve in
      let a4 : List Item = items_at_point acts End in
      let r : List Item = (cut_rekey (drop 2 items)).0 in
      let end : List Item = (cut_rekey (drop 2 items)).1 in
      let to2 : List Item = take 2 items ++ a1 ++ a2 in
      let w1 : weight (vread_items items acts) ≡ weight (to2 ++ r ++ a3 ++ a4) + weight end =
      sum_by-append f (to2 ++ r ++ a3 ++ a4) end in
      let w2 = sum_by-append f (to2 ++ r ++ a3) a4 in
      let w3 = sum_by-append f (to2 ++ r) a3 in
      let w4 = sum_by-append f to2 r in
      let w5 = sum_by-append f (take 2 items ++ a1) a2 in
      let w6 = sum_by-append f (take 2 items) a1 in
      let acts_all = acts_weight acts in
      let whole : weight items ≡ weight (take 2 items) + weight (drop 2 items) =
      ap weight (sym (take-append-drop 2 items)) ∙ sum_by-append f (take 2 items) (drop 2 items) in
      let following : weight (drop 2 items) ≡ weight r + weight end =
      ap weight (rekey_whole (drop 2 items)) ∙ sum_by-append f r end in omega arith

-- suppose that P is a fact about one item
module _ (P : Item → Type 0) where
  abbrev Each : List Item → Type 0
  Each items = AllByRecursion P items

  -- P holds for each step that acts make at `point`. The acts are `acts`, and one act at point p with the line `line`
  abbrev At : List BoundAct → SeenLine → Point → Point → Type 0
  At acts line p point =
      Each (if is_same_point p point then line_items line ++ items_at_point acts point else items_at_point acts point)

  -- if P holds for each step of the acts at each of the four points, it holds for each step of `lines`
  abbrev OfAll : List BoundAct → List SeenLine → Type 0
  OfAll acts lines = Each (items_at_point acts Start) → Each (items_at_point acts Written) →
      Each (items_at_point acts Serve) → Each (items_at_point acts End) → Each (lines_items lines)

  -- `OfAll` holds for acts and their lines: each step of an act is among the steps at the act's point
  of_acts : (acts : List BoundAct) → OfAll acts (map act_line acts)
  of_acts [] a b c d = tt
  of_acts (bound ∷ acts) a b c d = go bound.point a b c d (of_acts acts)
    where
      both : (point : Point) → Each (line_items bound.line ++ items_at_point acts point) →
          (Each (items_at_point acts point) → Each (lines_items (map act_line acts))) →
          Each (line_items bound.line ++ lines_items (map act_line acts))
      both point all rest =
          each_append P (line_items bound.line) (lines_items (map act_line acts))
          (each_left P (line_items bound.line) (items_at_point acts point) all)
          (rest (each_right P (line_items bound.line) (items_at_point acts point) all))

      go : (p : Point) → At acts bound.line p Start → At acts bound.line p Written → At acts bound.line p Serve →
          At acts bound.line p End → OfAll acts (map act_line acts) →
          Each (line_items bound.line ++ lines_items (map act_line acts))
      go Start a b c d rest = both Start a (λ x. rest x b c d)
      go Written a b c d rest = both Written b (λ x. rest a x c d)
      go Serve a b c d rest = both Serve c (λ x. rest a b x d)
      go End a b c d rest = both End d (λ x. rest a b c x)

  -- if a fact holds for each step of a call, it holds for each step of the call's lines
  pub call_each : (call : Call) → Each (call_items call) → Each (lines_items (lines_in_order call))
  call_each (alone event line) all = subst Each (sym (append-nil (line_items line))) all
  call_each (vread_call len flags line acts) all =
      let items : List Item = line_items line in
      let a1 : List Item = items_at_point acts Start in
      let a2 : List Item = items_at_point acts Written in
      let a3 : List Item = items_at_point acts Serve in
      let a4 : List Item = items_at_point acts End in
      let r : List Item = (cut_rekey (drop 2 items)).0 in
      let end : List Item = (cut_rekey (drop 2 items)).1 in
      let f4 = each_left P (take 2 items ++ a1 ++ a2 ++ r ++ a3 ++ a4) end all in
      let f3 = each_left P (take 2 items ++ a1 ++ a2 ++ r ++ a3) a4 f4 in
      let fr = each_left P (take 2 items ++ a1 ++ a2 ++ r) a3 f3 in
      let f2 = each_left P (take 2 items ++ a1 ++ a2) r fr in
      let f1 = each_left P (take 2 items ++ a1) a2 f2 in
      let of_line : Each items =
      subst Each (take-append-drop 2 items) (each_append P (take 2 items) (drop 2 items)
      (each_left P (take 2 items) a1 f1)
      (subst Each (sym (rekey_whole (drop 2 items))) (each_append P r end (each_right P (take 2 items ++ a1 ++ a2) r fr)
      (each_right P (take 2 items ++ a1 ++ a2 ++ r ++ a3 ++ a4) end all)))) in
      let inside = of_acts acts (each_right P (take 2 items) a1 f1) (each_right P (take 2 items ++ a1) a2 f2)
      (each_right P (take 2 items ++ a1 ++ a2 ++ r) a3 f3) (each_right P (take 2 items ++ a1 ++ a2 ++ r ++ a3) a4 f4) in
      subst Each (sym (flat_map-append line_items (map act_line acts) (line ∷ [])))
      (each_append P (lines_items (map act_line acts)) (items ++ []) inside
      (subst Each (sym (append-nil items)) of_line))
  call_each (unbound bound) all = subst Each (sym (append-nil (line_items bound.line))) all
  call_each (ending line) all = subst Each (sym (append-nil (line_items line))) all
