-- The replay and the lawfulness of a list with one more visit, and the generation in lawful lists.
use Rattle.std.proofs.Common.{◌≡◌, ℕ, zero, suc, ◌+◌, ◌<◌, ◌≤◌, true, false, List, [], ◌∷◌, ◌++◌, length, refl, sym, ap, subst, arith, Option, Some, None, le_refl}
use Rattle.std.specs.List.{fold}
use Rattle.std.proofs.lemmas.List.Sums.{sum_by-cons, fold-append}
use mathlib.Core.Option.{some, some-injective, some-ne-none}
use lib.ListN.{get_elem?}
use Rattle.key_names.specs.declared.entries.PoolEntry.{PoolEntry}
use Rattle.key_names.specs.declared.entries.PoolEntry.TheVariants.{Mix, Input, Bits, Extract}
use Rattle.key_names.specs.declared.entries.BaseEntry.{BaseEntry}
use Rattle.key_names.specs.declared.entries.BaseEntry.TheVariants.{Early, Reseed, Tick, Draw, Refill, Fork, End, Wait, Resume, Interrupt, Stall, Unstall}
use Rattle.key_names.specs.declared.entries.CpuEntry.{CpuEntry}
use Rattle.key_names.specs.declared.entries.CpuEntry.TheVariants.{Read, Int, Irq, Dump, Prepare, Online}
use Rattle.key_names.specs.Lanes.LawfulList.{LawfulFrom}
use Rattle.key_names.specs.Lanes.PoolList.{PoolState}
use Rattle.key_names.specs.Lanes.BaseList.{reseeds_at, generation_after}
use Rattle.key_names.specs.Lanes.CpuList.{base_refill_of}
use Rattle.base_gen.specs.BaseValue.{BaseValue}
use Rattle.cpu_gen.specs.CpuValue.{CpuValue, refilled, after_entry}
use Rattle.lane_table.specs.declared.view.Visit.{Visit}
use Rattle.lane_table.specs.declared.view.Handed.{Handed}
use Rattle.lane_table.specs.declared.view.LaneEntry.{LaneEntry}
use Rattle.lane_table.specs.declared.view.LaneEntry.TheVariants.{Pool, Base, Cpu}
use Rattle.lane_table.specs.Meaning.{Model, start_model, model_step, replay, MayCome, LawfulLane, after_of, least_after, raise_of, once, generator_of, pool_gives, base_gives, cpu_gives, gave_of, made_of}
use Rattle.lane_table.specs.References.{Pointed}
use Rattle.lane_table.specs.WorldRule.{Begins, raises}
use Rattle.lane_table.proofs.Lists.Lists.{at_below}

-- Lists with one more visit at the end

pub lawful_more : {S E : Type 0} (May : S → E → Type 0) (step : S → E → S) (s : S) (xs : List E) (e : E) →
    LawfulFrom May step s xs → May (fold step s xs) e → LawfulFrom May step s (xs ++ e ∷ [])
lawful_more May step s [] e lawful may = (may, tt)
lawful_more May step s (x ∷ xs) e lawful may = (lawful.0, lawful_more May step (step s x) xs e lawful.1 may)

lawful_front : {S E : Type 0} (May : S → E → Type 0) (step : S → E → S) (s : S) (xs ys : List E) →
    LawfulFrom May step s (xs ++ ys) → LawfulFrom May step s xs
lawful_front May step s [] ys lawful = tt
lawful_front May step s (x ∷ xs) ys lawful = (lawful.0, lawful_front May step (step s x) xs ys lawful.1)

pub lawful_begun : (n i : ℕ) (xs ys : List Visit) → Begins xs ys → LawfulLane n i ys → LawfulLane n i xs
lawful_begun n i xs ys b lawful = lawful_front (MayCome n i) model_step start_model xs b.0
    (subst (LawfulLane n i) b.1 lawful)

pub replay_push : (xs : List Visit) (x : Visit) → replay (xs ++ x ∷ []) ≡ model_step (replay xs) x
replay_push xs x = fold-append model_step start_model xs (x ∷ [])

-- Places of the parent lane that entries name

least_step : (o : Option ℕ) (m n : ℕ) → m ≤ n → ((p : ℕ) → o ≡ Some p → p < n) → least_after o m ≤ n
least_step None m n h k = h
least_step (Some p) m n h k = let l = k p refl in omega arith

least_fold : (xs : List Visit) (s : Model) (n : ℕ) → s.least ≤ n →
    ((b p : ℕ) (x : Visit) → get_elem? xs b ≡ some x → after_of x.entry ≡ Some p → p < n) →
    (fold model_step s xs).least ≤ n
least_fold [] s n h k = h
least_fold (x ∷ xs) s n h k = least_fold xs (model_step s x) n
    (least_step (after_of x.entry) s.least n h (λ p e. k 0 p x refl e)) (λ b p y e q. k (suc b) p y e q)

-- if the references to the parent lane agree (`Pointed`), the least place that the next entry may name is at most the
-- length of the parent lane's list
pub least_below : (l : ℕ) (following here : List Visit) → Pointed l following here → (replay here).least ≤ length following
least_below l following here h = least_fold here start_model (length following) (omega arith)
    (λ b p x e q. let t = h b p x e q in at_below following p t.0 t.1)

-- The generation that a lawful list gives

raised_by : (o : Option ℕ) (g : ℕ) → generation_after o g ≡ g + once o
raised_by None g = omega arith
raised_by (Some now) g = refl

generation_step : (s : Model) (e : LaneEntry) (got : Handed) →
    (made_of s e got).base.generation ≡ s.base.generation + raise_of e
generation_step s (Pool e) got = omega arith
generation_step s (Base e) got = raised_by (reseeds_at e) s.base.generation
generation_step s (Cpu e) got = omega arith

generation_fold : (xs : List Visit) (s : Model) → (fold model_step s xs).base.generation ≡ s.base.generation + raises xs
generation_fold [] s = omega arith
generation_fold (x ∷ xs) s = let h = generation_fold xs (model_step s x) in let k = generation_step s x.entry x.got in
    omega (arith, sum_by-cons (λ (v : Visit). raise_of v.entry) x xs)

-- the base's generation is the number of its reseeds
pub base_generation : (xs : List Visit) → (replay xs).base.generation ≡ raises xs
base_generation xs = let h = generation_fold xs start_model in omega arith

-- the generation that an entry of the base hands on is at most the base's generation. An entry of the pool hands on
-- generation 0
pool_gave : (s : PoolState) (e : PoolEntry) → (pool_gives s e).generation ≡ 0
pool_gave s (Mix text bits) = refl
pool_gave s (Input word kind code value now) = refl
pool_gave s Bits = refl
pool_gave s (Extract hw base_place) = refl

base_gave : (b : BaseValue) (got : Handed) (e : BaseEntry) → (base_gives b got e).generation ≤ b.generation
base_gave b got (Early root) = omega arith
base_gave b got (Reseed root now) = omega arith
base_gave b got (Tick now root) = omega arith
base_gave b got (Draw root taken) = omega arith
base_gave b got (Refill cpu cpu_place) = le_refl b.generation
base_gave b got (Fork child) = omega arith
base_gave b got End = omega arith
base_gave b got Wait = omega arith
base_gave b got Resume = omega arith
base_gave b got Interrupt = omega arith
base_gave b got Stall = omega arith
base_gave b got Unstall = omega arith

cpu_gave : (c : CpuValue) (got : Handed) (e : CpuEntry) → (cpu_gives c got e).generation ≡ 0
cpu_gave c got (Read look refill taken) = refl
cpu_gave c got (Int look refill width filled) = refl
cpu_gave c got (Irq v1 v2 now) = refl
cpu_gave c got (Dump now) = refl
cpu_gave c got Prepare = refl
cpu_gave c got Online = refl

gave_below : (s : Model) (e : LaneEntry) (got : Handed) → (gave_of s e got).generation ≤ s.base.generation
gave_below s (Pool e) got = let h = pool_gave s.pool e in omega arith
gave_below s (Base e) got = base_gave s.base got e
gave_below s (Cpu e) got = let h = cpu_gave s.cpu.cpu got e in omega arith

gave_fold : (n i : ℕ) (xs : List Visit) (s : Model) (p : ℕ) (y : Visit) → LawfulFrom (MayCome n i) model_step s xs →
    get_elem? xs p ≡ some y → y.gave.generation ≤ s.base.generation + raises xs
gave_fold n i [] s p y h e = absurd (some-ne-none y (sym e))
gave_fold n i (x ∷ xs) s zero y h e = let is : x ≡ y = some-injective x y e in let a =
    ap (λ (z : Handed). z.generation) h.0.gave_is in let b = gave_below s x.entry x.got in let c =
    ap (λ (z : Visit). z.gave.generation) is in omega (arith, sum_by-cons (λ (v : Visit). raise_of v.entry) x xs)
gave_fold n i (x ∷ xs) s (suc p) y h e = let k = gave_fold n i xs (model_step s x) p y h.1 e in let m =
    generation_step s x.entry x.got in omega (arith, sum_by-cons (λ (v : Visit). raise_of v.entry) x xs)

refilled_below : (refill : Option ℕ) (got : Handed) (c : CpuValue) (g : ℕ) → c.generation ≤ g →
    ((p : ℕ) → refill ≡ Some p → got.generation ≤ g) → (refilled refill (generator_of got) c).generation ≤ g
refilled_below None got c g h k = h
refilled_below (Some p) got c g h k = k p refl

entered_below : (e : CpuEntry) (got : Handed) (c : CpuValue) (g : ℕ) → c.generation ≤ g →
    ((p : ℕ) → base_refill_of e ≡ Some p → got.generation ≤ g) → (after_entry e (generator_of got) c).generation ≤ g
entered_below (Read look refill taken) got c g h k = refilled_below refill got c g h k
entered_below (Int look refill width true) got c g h k = refilled_below refill got c g h k
entered_below (Int look refill width false) got c g h k = refilled_below refill got c g h k
entered_below (Irq v1 v2 now) got c g h k = h
entered_below (Dump now) got c g h k = h
entered_below Prepare got c g h k = omega arith
entered_below Online got c g h k = h

cpu_step_below : (s : Model) (e : LaneEntry) (got : Handed) (g : ℕ) → s.cpu.cpu.generation ≤ g →
    ((p : ℕ) → after_of e ≡ Some p → got.generation ≤ g) → (made_of s e got).cpu.cpu.generation ≤ g
cpu_step_below s (Pool e) got g h k = h
cpu_step_below s (Base e) got g h k = h
cpu_step_below s (Cpu e) got g h k = entered_below e got s.cpu.cpu g h k

cpu_fold_below : (g : ℕ) (xs : List Visit) (s : Model) → s.cpu.cpu.generation ≤ g →
    ((b p : ℕ) (x : Visit) → get_elem? xs b ≡ some x → after_of x.entry ≡ Some p → x.got.generation ≤ g) →
    (fold model_step s xs).cpu.cpu.generation ≤ g
cpu_fold_below g [] s low k = low
cpu_fold_below g (x ∷ xs) s low k = cpu_fold_below g xs (model_step s x)
    (cpu_step_below s x.entry x.got g low (λ p e. k 0 p x refl e)) (λ b p y e q. k (suc b) p y e q)

-- a CPU's generation is at most the number of raises in the base's list
pub cpu_below : (n i : ℕ) (base cpu : List Visit) → LawfulLane n 1 base → Pointed i base cpu →
    (replay cpu).cpu.cpu.generation ≤ raises base
cpu_below n i base cpu lawful h = cpu_fold_below (raises base) cpu start_model (omega arith)
    (λ b p x e q. let t = h b p x e q in let g = gave_fold n 1 base start_model p t.0 lawful t.1 in
    let d = ap (λ (z : Handed). z.generation) t.3 in omega arith)
