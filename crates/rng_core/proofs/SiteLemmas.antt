-- The effects of calls at a site (a call's table, pass, trace and setting) follow from their looks and visits.
use Rattle.std.proofs.Common.{◌≡◌, ℕ, ◌+◌, List, [], ◌∷◌, ◌++◌, subst, refl, ◌∙◌, length, length-append, ap, ◌≤◌, arith}
use Rattle.key_names.specs.declared.entries.PoolEntry.{PoolEntry}
use Rattle.key_names.specs.declared.entries.BaseEntry.{BaseEntry}
use Rattle.key_names.specs.declared.entries.CpuEntry.{CpuEntry}
use Rattle.key_names.specs.declared.names.Step.{Step}
use Rattle.key_names.specs.Callers.Effects.{Effect, looked as look}
use Rattle.key_names.specs.Callers.Forms.{PoolOnly, BaseOnly, CpuOnly}
use Rattle.key_names.specs.Callers.Forms as forms
use Rattle.lane_table.specs.declared.lanes.Held.{Held}
use Rattle.lane_table.specs.declared.view.Visit.{Visit}
use Rattle.lane_table.specs.declared.view.LaneEntry.{LaneEntry}
use Rattle.lane_table.specs.declared.view.LaneEntry.TheVariants.{Pool, Base, Cpu}
use Rattle.lane_table.specs.Calls.{view}
use Rattle.lane_table.specs.Steps.{handed}
use Rattle.lane_table.specs.VisitsMet.{IsIntOfBatch}
use Rattle.lane_table.specs.Advances.{MadeStep}
use Rattle.rng_core.specs.declared.setting.Setting.{Setting}
use Rattle.rng_core.specs.declared.site.Site.{Site}
use Rattle.rng_core.specs.Traces.{TraceRecords, Visited}
use Rattle.rng_core.specs.Makes.{MakesIn, Serving}
use Rattle.rng_core.specs.Sites.{at, Same, Walked, IsIdle, Does, DoesIn, Entered, VisitedIdly, Looked, LookedIdly, lane_of}
use Rattle.rng_core.proofs.TellLemmas.{recorded_then}
use Rattle.rng_core.proofs.Makings.{After, AfterLook, did_in_map, did_after, did_in_then, did_after_look, did_look, did_nothing, did_pool, did_base, did_cpu, serving_looked, formed, served_of}

pub one_more : (xs ys : List Step) (s : Step) → ys ≡ xs ++ s ∷ [] → length ys ≡ length xs + 1
one_more xs ys s e = ap length e ∙ (omega (arith, length-append xs (s ∷ [])))

pub same_then : (l m n : Site) → Same l m → Same m n → Same l n
same_then l m n a b = record {
  lanes = b.lanes ∙ a.lanes;
  set = b.set ∙ a.set;
  pass = b.pass ∙ a.pass;
  trace = b.trace ∙ a.trace;
}

-- if `l` and `m` have the same setting, and `MakesIn` holds with the setting of `m`, it holds with the setting of `l`
pub by_set : (P : Setting → (ℕ → List Visit) → List Effect → Type 0) (l m n : Site) → Same l m →
    MakesIn (P m.set) m.set (at m) (at n) → MakesIn (P l.set) l.set (at m) (at n)
by_set P l m n same k = subst (λ (s : Setting). MakesIn (P s) s (at m) (at n)) same.set k

pub walked_then : (l m n : Site) (xs ys : List MadeStep) → Walked xs l m → Walked ys m n → Walked (xs ++ ys) l n
walked_then l m n xs ys a b = record {
  same = same_then l m n a.same b.same;
  recorded = recorded_then l.set (at l) (at m) (at n) xs ys a.recorded
      (subst (λ (s : Setting). TraceRecords s (at m) (at n) ys) a.same.set b.recorded);
}

-- if P implies Q, a call for which P holds is a call for which Q holds
pub does_in_map : {P Q : (ℕ → List Visit) → List Effect → Type 0} (steps : ℕ) (m n : Site) →
    ((visits : ℕ → List Visit) (effects : List Effect) → P visits effects → Q visits effects) → DoesIn steps P m n →
    DoesIn steps Q m n
does_in_map steps m n f k = record {
  same = k.same;
  has = k.has;
  room = k.room;
  did = did_in_map m.set (at m) (at n) f k.did;
}

pub does_map : {P Q : List Effect → Type 0} (steps : ℕ) (m n : Site) → ((effects : List Effect) → P effects → Q effects) →
    Does steps P m n → Does steps Q m n
does_map steps m n f k = does_in_map steps m n (λ visits. f) k

-- a call of at most `few` steps is one of at most `many` steps
pub does_within : {P : (ℕ → List Visit) → List Effect → Type 0} (few many : ℕ) (m n : Site) → few ≤ many →
    DoesIn few P m n →
    DoesIn many P m n
does_within few many m n less k = record {
  same = k.same;
  has = k.has;
  room = (let r = k.room in omega arith);
  did = k.did;
}

-- effects that have the form `F` and serve `bytes` have the form `F`
pub does_formed : {F : List Effect → Type 0} {bytes : List ℕ} (steps : ℕ) (m n : Site) →
    Does steps (Serving F bytes) m n →
    Does steps F m n
does_formed steps m n k = does_map steps m n (λ effects h. h.form) k

-- if no step was made from `l` to `m`, a call from `m` to `n` is a call from `l` to `n`; its property may depend on the
-- setting
pub does_following : (P : Setting → (ℕ → List Visit) → List Effect → Type 0) (steps : ℕ) (l m n : Site) → Walked [] l m →
    m.trace.now ≡ l.trace.now → DoesIn steps (P m.set) m n → DoesIn steps (P l.set) l n
does_following P steps l m n a e k = record {
  same = same_then l m n a.same k.same;
  has = k.has;
  room = subst (λ (t : List Step). length n.trace.now ≤ length t + steps) e k.room;
  did = did_after l.set (at l) (at m) (at n) a.recorded (by_set P l m n a.same k.did);
}

pub does_after : {P : (ℕ → List Visit) → List Effect → Type 0} (steps : ℕ) (l m n : Site) → Walked [] l m →
    m.trace.now ≡ l.trace.now → DoesIn steps P m n → DoesIn steps P l n
does_after {P} steps l m n a e k = does_following (λ s. P) steps l m n a e k

-- two successive calls together are one call with the effects of both; the property of the second may depend on the
-- setting
pub does_in_then : {P : (ℕ → List Visit) → List Effect → Type 0} (Q : Setting → (ℕ → List Visit) → List Effect → Type 0)
    (first second : ℕ) (l m n : Site) → DoesIn first P l m → DoesIn second (Q m.set) m n →
    DoesIn (first + second) (λ visits. After (P visits) (Q l.set visits)) l n
does_in_then Q first second l m n a b = record {
  same = same_then l m n a.same b.same;
  has = b.has;
  room = (let r = a.room in let q = b.room in omega arith);
  did = did_in_then l.set (at l) (at m) (at n) a.did (by_set Q l m n a.same b.did);
}

pub does_then : {P : List Effect → Type 0} (Q : Setting → List Effect → Type 0) (first second : ℕ) (l m n : Site) →
    Does first P l m → Does second (Q m.set) m n → Does (first + second) (After P (Q l.set)) l n
does_then Q first second l m n a b = does_in_then (λ s visits. Q s) first second l m n a b

-- a look, and a call of `steps` steps after it, are together one call of `steps + 1` steps
pub does_looked : (P : Setting → ℕ → List Effect → Type 0) (bytes : List ℕ) (steps g : ℕ) (l m n : Site) →
    Looked g l m → Does steps (Serving (P m.set g) bytes) m n →
    Does (steps + 1) (Serving (forms.Looked (P l.set)) bytes) l n
does_looked P bytes steps g l m n a k = record {
  same = same_then l m n a.walked.same k.same;
  has = k.has;
  room = (let r = k.room in let q = a.room in omega arith);
  did = serving_looked l.set (at l) (at m) (at n) g a.walked.recorded
      (by_set (λ s visits. Serving (P s g) bytes) l m n a.walked.same k.did);
}

-- a look and the call after it are one call, with the generation that the look found
pub does_found : (P : Setting → List Effect → Type 0) (steps g : ℕ) (l m n : Site) → Looked g l m →
    Does steps (P m.set) m n →
    Does (steps + 1) (AfterLook g (P l.set)) l n
does_found P steps g l m n a k = record {
  same = same_then l m n a.walked.same k.same;
  has = k.has;
  room = (let r = k.room in let q = a.room in omega arith);
  did = did_after_look l.set (at l) (at m) (at n) g a.walked.recorded (by_set (λ s visits. P s) l m n a.walked.same k.did);
}

-- a call that only looks, and finds `g`, has one step (`Does 1`)
pub does_look : (g : ℕ) (m n : Site) → LookedIdly g m n → Does 1 (λ (effects : List Effect). effects ≡ look g ∷ []) m n
does_look g m n a = record {
  same = a.looked.walked.same;
  has = a.has;
  room = (let q = a.looked.room in omega arith);
  did = did_look m.set (at m) (at n) g a.looked.walked.recorded;
}

-- if P holds for an empty list of effects, a call that makes no step satisfies `Does`
pub does_nothing : {P : List Effect → Type 0} (steps : ℕ) (m : Site) → IsIdle steps m → P [] → Does steps P m m
does_nothing steps m idle p = record {
  same = record { lanes = refl; set = refl; pass = refl; trace = refl };
  has = idle.has;
  room = omega arith;
  did = did_nothing m.set (at m) (let a = idle.has.pass.sized in let b = m.lanes.now.few in omega arith) p;
}

-- a call that makes only one visit has one step (`DoesIn 1`)
pub does_visited : {P : (ℕ → List Visit) → List Effect → Type 0} (lane : ℕ) (h : Held) (e : LaneEntry) (m n : Site) →
    VisitedIdly lane h e m n → (Visited m.set (at m) (at n) lane h.turn.place (lane_of m lane) e
    (handed lane e (view m.pass.now)) →
    MakesIn P m.set (at m) (at n)) → DoesIn 1 P m n
does_visited lane h e m n k f = record {
  same = k.same;
  has = k.has;
  room = (let r = k.room in omega arith);
  did = f k.visited;
}

pub visit_at : (a b : ℕ) (h : Held) (e : LaneEntry) (m n : Site) → a ≡ b → VisitedIdly a h e m n → VisitedIdly b h e m n
visit_at a b h e m n same k = subst (λ (l : ℕ). VisitedIdly l h e m n) same k

-- a call that makes only one visit of the pool, the base or a CPU has one step (`Does 1`)
pub does_pool : (h k : Held) (e : PoolEntry) (l m n : Site) → Entered 0 h l m → VisitedIdly 0 k (Pool e) m n →
    Does 1 (PoolOnly e) l n
does_pool h k e l m n a b = does_after 1 l m n a.walked a.trace
    (does_visited 0 k (Pool e) m n b (λ x. did_pool m.set (at m) (at n) _ _ e _ x))

pub does_base : (h k : Held) (e : BaseEntry) (l m n : Site) → Entered 1 h l m → VisitedIdly 1 k (Base e) m n →
    Does 1 (BaseOnly e) l n
does_base h k e l m n a b = does_after 1 l m n a.walked a.trace (does_visited 1 k (Base e) m n b
    (λ x. formed m.set (at m) (at n) (did_base m.set (at m) (at n) _ e _ (served_of _ _ _ _ _ _ _ _ x))))

pub does_cpu : (cpu : ℕ) (h k : Held) (e : CpuEntry) (l m n : Site) → IsIntOfBatch e → Entered (cpu + 2) h l m →
    VisitedIdly (cpu + 2) k (Cpu e) m n → Does 1 (CpuOnly cpu e) l n
does_cpu cpu h k e l m n fits a b = does_after 1 l m n a.walked a.trace (does_visited (cpu + 2) k (Cpu e) m n b
    (λ x. formed m.set (at m) (at n) (did_cpu m.set (at m) (at n) cpu _ e _ fits (served_of _ _ _ _ _ _ _ _ x))))
