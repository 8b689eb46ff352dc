-- A call at a site (its table, pass, trace and setting) reads bytes or serves an integer. Its effects have the form of
-- that event, and its visits serve the bytes.
use Rattle.std.proofs.Common.{◌≡◌, ℕ, ◌+◌, ◌≤◌, Bool, true, List, length, Some, None, subst, arith}
use Rattle.key_names.specs.declared.entries.PoolEntry.TheVariants.{Extract}
use Rattle.key_names.specs.declared.entries.BaseEntry.{BaseEntry}
use Rattle.key_names.specs.declared.entries.BaseEntry.TheVariants.{Refill}
use Rattle.key_names.specs.declared.entries.CpuEntry.TheVariants.{Read, Int}
use Rattle.key_names.specs.declared.entries.Taken.{Taken}
use Rattle.key_names.specs.Callers.Effects.{Effect}
use Rattle.key_names.specs.Callers.Forms.{BaseOnly, PlainRead, RefilledRead, Rooted, BatchForm, RefilledBatch}
use Rattle.lane_table.specs.declared.lanes.Held.{Held}
use Rattle.lane_table.specs.declared.view.LaneEntry.{LaneEntry}
use Rattle.lane_table.specs.declared.view.LaneEntry.TheVariants.{Pool, Base, Cpu}
use Rattle.lane_table.specs.Calls.{view}
use Rattle.lane_table.specs.Meaning.{Model, nothing}
use Rattle.lane_table.specs.Steps.{handed}
use Rattle.lane_table.specs.VisitsMet.{FitsBatch}
use Rattle.rng_core.specs.declared.crng.keys.KeyHandoff.{KeyHandoff}
use Rattle.rng_core.specs.declared.setting.Setting.{Setting}
use Rattle.rng_core.specs.declared.site.Site.{Site}
use Rattle.rng_core.specs.Traces.{Visited}
use Rattle.rng_core.specs.Makes.{Makes, Serving, Served, serving, setting_of}
use Rattle.rng_core.specs.Sites.{at, Does, EnteredCpu, VisitedIdly, VisitedServing, Refilled, Same, lane_of, own_lane}
use Rattle.rng_core.proofs.IntFulfilling.{did_batch, did_refilled_batch}
use Rattle.rng_core.proofs.Makings.{did_base, did_rooted, did_plain_read, did_refilled_read}
use Rattle.rng_core.proofs.SiteLemmas.{same_then, does_visited}

-- a call that is one visit of the base serves that visit's bytes
pub serves_base : (h : Held) (e : BaseEntry) (bytes : List ℕ) (m n : Site) → VisitedIdly 1 h (Base e) m n →
    bytes ≡ serving (Base e) (lane_of m 1) (handed 1 (Base e) (view m.pass.now)) →
    Does 1 (Serving (BaseOnly e) bytes) m n
serves_base h e bytes m n k is = does_visited 1 h (Base e) m n k (λ x. did_base m.set (at m) (at n) h.turn.place e bytes
    (record { model = _; got = _; visited = x; serves = is }))

-- an extraction, and then a visit of the base whose entry names the extraction's place, serve the bytes of the base's
-- visit
pub serves_rooted : (h : Held) (place : ℕ) (s : Model) (entry : ℕ → BaseEntry) (bytes : List ℕ) (l m n : Site) →
    Same l m →
    length m.trace.now ≡ length l.trace.now + 1 →
    Visited l.set (at l) (at m) 0 place s (Pool (Extract l.set.hw h.turn.place)) nothing →
    VisitedIdly 1 h (Base (entry place)) m n →
    bytes ≡ serving (Base (entry place)) (lane_of m 1) (handed 1 (Base (entry place)) (view m.pass.now)) →
    Does 2 (Serving (Rooted (setting_of l.set) entry) bytes) l n
serves_rooted h place s entry bytes l m n same one v b is = record {
  same = same_then l m n same b.same;
  has = b.has;
  room = (let q = b.room in omega arith);
  did = did_rooted l.set (at l) (at m) (at n) place h.turn.place s nothing entry bytes v
      (subst (λ (x : Setting). Served x (at m) (at n) 1 h.turn.place (Base (entry place)) bytes) same.set
      (record { model = _; got = _; visited = b.visited; serves = is }));
}

-- a call that ends with a visit of the caller's CPU serves the bytes of the visit
cpu_serves : {Q : List Effect → Type 0} (h : Held) (e : LaneEntry) (bytes : List ℕ) (steps : ℕ) (l m n : Site) →
    Same l m →
    length m.trace.now + 1 ≤ length l.trace.now + steps → VisitedServing (own_lane m) h e bytes m n →
    (Served l.set (at m) (at n) (own_lane l) h.turn.place e bytes → Makes Q l.set (at l) (at n)) → Does steps Q l n
cpu_serves h e bytes steps l m n same few b f = record {
  same = same_then l m n same b.same;
  has = b.has;
  room = (let q = b.room in omega arith);
  did = f (subst (λ (s : Setting). Served s (at m) (at n) (s.cpu + 2) h.turn.place e bytes) same.set b.served);
}

-- a read from a CPU after a look has the form PlainRead
pub serves_plain_read : (h : Held) (g : ℕ) (taken : Taken) (bytes : List ℕ) (l m n : Site) → EnteredCpu h g l m →
    VisitedServing (own_lane m) h (Cpu (Read g None taken)) bytes m n →
    Does 3 (Serving (PlainRead (setting_of l.set) taken) bytes) l n
serves_plain_read h g taken bytes l m n a b = cpu_serves h _ bytes 3 l m n a.walked.same (let q = a.room in omega arith)
    b
    (λ x. did_plain_read l.set (at l) (at m) (at n) g h.turn.place taken bytes a.walked.recorded x)

-- a read from a CPU after a look and a refill has the form RefilledRead
pub serves_refilled_read : (h : Held) (base : KeyHandoff) (g : ℕ) (taken : Taken) (bytes : List ℕ) (j l m n : Site) →
    EnteredCpu h g j l → Refilled h base l m → VisitedServing (own_lane m) h (Cpu (Read g (Some base.place) taken)) bytes m
    n →
    Does 3 (Serving (RefilledRead (setting_of j.set) taken) bytes) j n
serves_refilled_read h base g taken bytes j l m n a b d = cpu_serves h _ bytes 3 j m n
    (same_then j l m a.walked.same b.same) (let q = a.room in let r = b.room in omega arith) d
    (λ x. did_refilled_read j.set (at j) (at l) (at m) (at n) g base.place h.turn.place _ nothing taken bytes
    a.walked.recorded (subst (λ (s : Setting). Visited s (at l) (at m) 1 base.place b.visited.0
    (Base (Refill s.cpu h.turn.place)) nothing) a.walked.same.set b.visited.1) x)

-- an integer that a CPU serves after a look has the form BatchForm
pub serves_batch : (h : Held) (g width : ℕ) (fills : Bool) (bytes : List ℕ) (l m n : Site) → FitsBatch width →
    EnteredCpu h g l m → VisitedServing (own_lane m) h (Cpu (Int g None width fills)) bytes m n →
    Does 3 (Serving (BatchForm (setting_of l.set) width) bytes) l n
serves_batch h g width fills bytes l m n fits a b = cpu_serves h _ bytes 3 l m n a.walked.same
    (let q = a.room in omega arith) b
    (λ x. did_batch l.set (at l) (at m) (at n) g h.turn.place width fills bytes fits a.walked.recorded x)

-- an integer that a CPU serves after a look and a refill has the form RefilledBatch
pub serves_refilled_batch : (h : Held) (base : KeyHandoff) (g width : ℕ) (bytes : List ℕ) (j l m n : Site) →
    FitsBatch width → EnteredCpu h g j l → Refilled h base l m →
    VisitedServing (own_lane m) h (Cpu (Int g (Some base.place) width true)) bytes m n →
    Does 3 (Serving (RefilledBatch (setting_of j.set) width) bytes) j n
serves_refilled_batch h base g width bytes j l m n fits a b d = cpu_serves h _ bytes 3 j m n
    (same_then j l m a.walked.same b.same) (let q = a.room in let r = b.room in omega arith) d
    (λ x. did_refilled_batch j.set (at j) (at l) (at m) (at n) g base.place h.turn.place width b.visited.0 nothing bytes
    fits a.walked.recorded (subst (λ (s : Setting). Visited s (at l) (at m) 1 base.place b.visited.0
    (Base (Refill s.cpu h.turn.place)) nothing) a.walked.same.set b.visited.1) x)
