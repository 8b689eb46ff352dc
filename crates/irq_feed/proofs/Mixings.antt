-- Successive interrupts, one for each sample, and the visits and entries that they leave in the lanes.
use Rattle.std.proofs.Common.{◌≡◌, ⊎_elim, ℕ, suc, ◌+◌, ◌<◌, ◌==◌, List, [], ◌∷◌, ◌++◌, map, cond, true, false, Bool, length, sym, refl, ap, ◌∙◌, subst, append_assoc, add-zero, zero-add, add-one, length-append, ◌≤◌, arith}
use Rattle.std.proofs.lemmas.List.{append-nil, map-append}
use Rattle.key_names.specs.declared.names.Step.{Step}
use Rattle.key_names.specs.declared.names.Step.TheVariants.{Look, Visit as Marked}
use Rattle.key_names.specs.declared.entries.CpuEntry.{CpuEntry}
use Rattle.key_names.specs.declared.entries.CpuEntry.TheVariants.{Irq}
use Rattle.key_names.specs.Callers.Calls.{Setting}
use Rattle.key_names.specs.Lanes.PoolList.{Crossing, ready, early, none}
use Rattle.key_names.specs.Callers.Effects.{Effect, looked, at_pool, at_base, at_cpu, nothing_there, effect_of, effects_of}
use Rattle.key_names.specs.Callers.Forms.{Rooted, BaseOnly, Cross, DumpForm, IrqForm}
use Rattle.key_names.specs.declared.entries.BaseEntry.{BaseEntry}
use Rattle.key_names.specs.declared.entries.BaseEntry.TheVariants.{Early, Reseed as Reseeded}
use Rattle.std.specs.Prelude.{Some, None}
use Rattle.lane_table.specs.declared.view.View.{View}
use Rattle.lane_table.specs.LaneNumbers.{index_of}
use Rattle.lane_table.specs.WorldRule.{at, known_of}
use Rattle.lane_table.specs.Advances.{MadeStep, looked as did_look, visited, step_of, places_in}
use Rattle.lane_table.specs.Steps.{Grows}
use Rattle.lane_table.specs.BookLists.{book_lists}
use Rattle.lane_table.proofs.Lists.VisitLists.{begins_trans, begins_refl}
use Rattle.lane_table.proofs.Book.BookEnds.{continues_before}
use Rattle.rng_core.specs.declared.setting.Setting.{Setting as Called}
use Rattle.rng_core.specs.Makes.{setting_of}
use Rattle.irq_feed.specs.declared.samples.Sample.{Sample}
use Rattle.irq_feed.specs.declared.known.Known.{Known}
use Rattle.irq_feed.specs.declared.known.Known.TheVariants.{Worker, Feeder, Nobody}
use Rattle.irq_feed.specs.Feeds.{Numbers}
use Rattle.irq_feed.specs.Samples.{sample, first_samples}
use Rattle.irq_feed.specs.Rule.{IsWorker, Popped, with_taken}
use Rattle.irq_feed.proofs.Counting.{first_length}
use Rattle.irq_feed.specs.Mixing.{Interrupted, Mixes, Put, irq_at, irqs_of, irq_of, places_of}

-- ---- Successive interrupts (`Mixes`)

pub mixes_more : (set : Called) (event : ℕ) (xs : List Sample) (x : Sample) (v u w : View) → Mixes set event xs v u
    → Interrupted set (event + length xs) x u w → Mixes set event (xs ++ x ∷ []) v w
mixes_more set event [] x v u w before last =
    (w, subst (λ k. Interrupted set event x k w) before (subst (λ n. Interrupted set n x u w) (add-zero event) last), refl)
mixes_more set event (y ∷ ys) x v u w before last = (
  before.0,
  before.1,
  mixes_more set (suc event) ys x before.0 u w before.2
      (let e : event + suc (length ys) ≡ suc event + length ys = omega arith in
      subst (λ n. Interrupted set n x u w) e last),
)

pub mixes_then : (set : Called) (event : ℕ) (xs ys : List Sample) (v u w : View) → Mixes set event xs v u
    → Mixes set (event + length xs) ys u w → Mixes set event (xs ++ ys) v w
mixes_then set event [] ys v u w before after = subst (λ k. Mixes set event ys k w) before (subst (λ n. Mixes set n ys u w) (add-zero event) after)
mixes_then set event (x ∷ xs) ys v u w before after = (
  before.0,
  before.1,
  mixes_then set (suc event) xs ys before.0 u w before.2
      (let e : event + suc (length xs) ≡ suc event + length xs = omega arith in
      subst (λ n. Mixes set n ys u w) e after),
)

-- if interrupts of `xs` are followed by interrupts of `ys`, together they are interrupts of `xs ++ ys`, in events
-- numbered from 0
pub mixes_on : (set : Called) (xs ys zs : List Sample) (v u w : View) → zs ≡ xs ++ ys → Mixes set (length xs) ys u w
    → Mixes set 0 xs v u → Mixes set 0 zs v w
mixes_on set xs ys zs v u w is after before = subst (λ l. Mixes set 0 l v w) (sym is)
    (mixes_then set 0 xs ys v u w before (subst (λ n. Mixes set n ys u w) (sym (zero-add (length xs))) after))

-- if the worker took and mixed `xs`, then takes the sample `x` and makes an interrupt of it, the worker has taken and
-- mixed `xs ++ x`
pub one_more : (set : Called) (v₀ v₁ v₂ : Known) (xs ys : List Sample) (x : Sample) (v u w : View) → IsWorker v₀
    → v₁ ≡ with_taken v₀ xs → Popped v₁ x v₂ → ys ≡ xs ++ x ∷ [] → Mixes set 0 xs v u
    → Interrupted set (length xs) x u w → (v₂ ≡ with_taken v₀ ys) × Mixes set 0 ys v w
one_more set v₀ v₁ v₂ xs ys x v u w worker before popped is mixes last = (
  took v₀ worker (subst (λ k. Popped k x v₂) before popped) ∙ ap (with_taken v₀) (sym is),
  subst (λ l. Mixes set 0 l v w) (sym is)
      (mixes_more set 0 xs x v u w mixes (subst (λ n. Interrupted set n x u w) (sym (zero-add (length xs))) last)),
)
  where
    took : (k : Known) → IsWorker k → Popped (with_taken k xs) x v₂ → v₂ ≡ with_taken k (xs ++ x ∷ [])
    took (Worker d) worker e = e
    took (Feeder p) worker e = absurd worker
    took Nobody worker e = absurd worker

-- if the worker mixed the first `index` samples of a direct feeder, and then mixes sample `index`, it has mixed the
-- first `index + 1` samples
pub direct_more : (set : Called) (feeds : Numbers) (number index : ℕ) (xs ys zs : List Sample) (x : Sample)
    (v u w : View) → ys ≡ xs ++ first_samples feeds number index → zs ≡ ys ++ x ∷ [] → x ≡ sample feeds number index
    → Mixes set (length xs) (first_samples feeds number index) v u → Interrupted set (length ys) x u w
    → (zs ≡ xs ++ first_samples feeds number (index + 1))
    × Mixes set (length xs) (first_samples feeds number (index + 1)) v w
direct_more set feeds number index xs ys zs x v u w before is of mixes last =
    let firsts : List Sample = first_samples feeds number index in
    let long : length ys ≡ length xs + length firsts = ap length before ∙ length-append xs firsts in
    let more : first_samples feeds number (index + 1) ≡ firsts ++ x ∷ [] =
    ap (first_samples feeds number) (add-one index) ∙ ap (λ y. firsts ++ y ∷ []) (sym of) in (
      is ∙ ap (λ l. l ++ x ∷ []) before ∙ append_assoc xs firsts (x ∷ []) ∙ ap (λ l. xs ++ l) (sym more),
      subst (λ l. Mixes set (length xs) l v w) (sym more)
          (mixes_more set (length xs) firsts x v u w mixes (subst (λ n. Interrupted set n x u w) long last)),
    )

pub direct_room : (feeds : Numbers) (number index cap cap' : ℕ) (xs ys : List Sample)
    → ys ≡ xs ++ first_samples feeds number index → index < feeds.each → length xs + feeds.each ≤ 160000
    → length xs + feeds.each ≤ cap → cap' ≡ cap → (length ys < 160000) × (length ys < cap')
direct_room feeds number index cap cap' xs ys before low small room same =
    let firsts : List Sample = first_samples feeds number index in
    let long : length ys ≡ length xs + length firsts = ap length before ∙ length-append xs firsts in
    let l = first_length feeds number index in
    (omega arith, omega arith)

-- ---- The places of a lane's visits among the steps

places_same : (lane : ℕ) (made_steps : List MadeStep) →
    places_in lane made_steps ≡ places_of lane (map step_of made_steps)
places_same lane [] = refl
places_same lane (did_look g ∷ made_steps) = places_same lane made_steps
places_same lane (visited mark e ∷ made_steps) =
    ap (λ ps. cond (index_of mark.lane == lane) (mark.place ∷ ps) ps) (places_same lane made_steps)

places_more : (lane : ℕ) (xs ys : List Step) → places_of lane (xs ++ ys) ≡ places_of lane xs ++ places_of lane ys
places_more lane [] ys = refl
places_more lane (Look g ∷ xs) ys = places_more lane xs ys
places_more lane (Marked mark ∷ xs) ys =
    ap (λ ps. cond (index_of mark.lane == lane) (mark.place ∷ ps) ps) (places_more lane xs ys)
    ∙ either_more (index_of mark.lane == lane) mark.place (places_of lane xs) (places_of lane ys)
  where
    either_more : (b : Bool) (p : ℕ) (ps qs : List ℕ) → cond b (p ∷ (ps ++ qs)) (ps ++ qs) ≡ cond b (p ∷ ps) ps ++ qs
    either_more true p ps qs = refl
    either_more false p ps qs = refl

-- ---- the interrupts among the steps of one call

irqs_more : (xs ys : List Effect) → irqs_of (xs ++ ys) ≡ irqs_of xs ++ irqs_of ys
irqs_more [] ys = refl
irqs_more (looked g ∷ xs) ys = irqs_more xs ys
irqs_more (at_pool visit ∷ xs) ys = irqs_more xs ys
irqs_more (at_base visit ∷ xs) ys = irqs_more xs ys
irqs_more (at_cpu visit ∷ xs) ys =
    ap (λ l. irq_at visit.cpu visit.entry ++ l) (irqs_more xs ys)
    ∙ sym (append_assoc (irq_at visit.cpu visit.entry) (irqs_of xs) (irqs_of ys))
irqs_more (nothing_there ∷ xs) ys = irqs_more xs ys

rooted_none : (set : Setting) (entry : ℕ → BaseEntry) (effects : List Effect) → Rooted set entry effects → irqs_of effects ≡ []
rooted_none set entry effects r = ap irqs_of r.effects_are

crossing_none : (set : Setting) (c : Crossing) (effects : List Effect) → Cross set c effects → irqs_of effects ≡ []
crossing_none set none effects r = ap irqs_of r
crossing_none set ready effects r = rooted_none set (λ n. Reseeded n set.now) effects r
crossing_none set early effects r = ⊎_elim (λ x. rooted_none set (λ n. Early (Some n)) effects x)
    (λ (x : BaseOnly (Early None) effects). ap irqs_of x.effects_are) r

dump_none : (set : Setting) (effects : List Effect) → DumpForm set effects → irqs_of effects ≡ []
dump_none set effects d =
    let m = d.mixes in
    ap irqs_of d.effects_are ∙ ap (λ e. irq_at d.dump.cpu e ++ irqs_of d.rest) d.dumps ∙ ap irqs_of m.effects_are
    ∙ crossing_none set _ m.rest m.crosses

irq_one : (set : Setting) (v1 v2 : ℕ) (effects : List Effect) → IrqForm set v1 v2 effects
    → irqs_of effects ≡ (set.cpu, Irq v1 v2 set.now) ∷ []
irq_one set v1 v2 effects f =
    ap irqs_of f.effects_are
    ∙ ap (λ (p : ℕ × CpuEntry). irq_at p.0 p.1 ++ irqs_of f.rest) (λ i. (f.on i, f.samples i))
    ∙ ap (λ l. (set.cpu, Irq v1 v2 set.now) ∷ l)
    (⊎_elim (λ (e : f.rest ≡ []). ap irqs_of e) (λ d. dump_none set f.rest d) f.dumps)

-- ---- The visits that the interrupts leave in the lanes

pub puts : (set : Called) (event : ℕ) (xs : List Sample) (v w : View) → Mixes set event xs v w → Put set xs v w
puts set event [] v w same = record {
  steps = [];
  all = λ lane low. ap (λ u. (at lane u).places) same ∙ sym (append-nil (at lane v).places);
  irqs = λ lanes visits callers c. refl;
  sized = ap (λ (u : View). length u.lanes) same;
  grows = subst (λ u. Grows v u) (sym same) (λ j low. begins_refl (known_of v j));
}
puts set event (x ∷ xs) v w (u, one, more) =
    let p = puts set (suc event) xs u w more in
    let d = one.did in
    let went = d.recorded.went in
    record {
      steps = one.steps ++ p.steps;
      all = λ lane low.
          p.all lane (let s = went.same.sized in omega arith)
          ∙ ap (λ l. l ++ places_of lane p.steps) (went.places lane low)
          ∙ append_assoc (at lane v).places (places_in lane d.made_steps) (places_of lane p.steps)
          ∙ ap (λ l. (at lane v).places ++ (l ++ places_of lane p.steps))
          (places_same lane d.made_steps ∙ ap (places_of lane) (sym d.recorded.trace))
          ∙ ap (λ l. (at lane v).places ++ l) (sym (places_more lane one.steps p.steps));
      irqs = λ lanes visits callers c.
          let lists = book_lists lanes visits callers in
          let first = d.conforms lanes visits callers (continues_before lanes u w visits p.sized p.grows c) in
          ap irqs_of (map-append (effect_of lists) one.steps p.steps)
          ∙ irqs_more (effects_of lists one.steps) (effects_of lists p.steps)
          ∙ ap (λ l. irqs_of (effects_of lists l) ++ irqs_of (effects_of lists p.steps)) d.recorded.trace
          ∙ ap (λ l. l ++ irqs_of (effects_of lists p.steps))
          (irq_one (setting_of set) x.v1 x.v2 (effects_of lists (map step_of d.made_steps)) first.holds.form)
          ∙ ap (λ l. irq_of set x ∷ l) (p.irqs lanes visits callers c);
      sized = p.sized ∙ went.same.sized;
      grows = λ j low. begins_trans (known_of v j) (known_of u j) (known_of w j) (went.grows j low)
          (p.grows j (let s = went.same.sized in omega arith));
    }
