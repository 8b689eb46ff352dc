-- The effects of calls that visit the pool or a CPU's fast pool follow from these visits. A call runs at a site: its
-- table, pass, trace and setting.
use Rattle.std.proofs.Common.{◌≡◌, ℕ, ◌+◌, ◌<◌, ◌≤◌, length, ap, ◌∙◌, arith}
use Rattle.key_names.specs.declared.entries.PoolEntry.{PoolEntry}
use Rattle.key_names.specs.declared.entries.PoolEntry.TheVariants.{Bits}
use Rattle.key_names.specs.declared.entries.CpuEntry.{CpuEntry}
use Rattle.key_names.specs.declared.events.Event.TheVariants.{Bits as BitsEvent}
use Rattle.key_names.specs.declared.events.Answer.TheVariants.{Ok as Done}
use Rattle.key_names.specs.Callers.Forms.{CreditForm, Cross}
use Rattle.key_names.specs.Lanes.PoolList.{Crossing, crossing, pool_step}
use Rattle.key_names.specs.Transcripts.SeenLine.{count}
use Rattle.lane_table.specs.declared.lanes.Held.{Held}
use Rattle.lane_table.specs.declared.view.LaneEntry.TheVariants.{Pool, Cpu}
use Rattle.lane_table.specs.Calls.{view}
use Rattle.lane_table.specs.VisitsMet.{IsIntOfBatch}
use Rattle.lane_table.specs.WorldRule.{known_of}
use Rattle.lane_table.proofs.Lists.VisitLists.{begins_length}
use Rattle.rng_core.specs.declared.setting.Setting.{Setting}
use Rattle.rng_core.specs.declared.site.Site.{Site}
use Rattle.rng_core.specs.Makes.{IsOutcomeOf, setting_of}
use Rattle.rng_core.specs.Sites.{at, pool_lane, lane_of, own_lane, own_cpu, own_places, IsIdle, IsOnCpu, Entered, VisitedIdly, DoesIn, Does, Completes}
use Rattle.rng_core.proofs.Makings.{did_bits, did_credit}
use Rattle.rng_core.proofs.Sampling.{CpuMet, did_met, visited_below}
use Rattle.rng_core.proofs.SiteLemmas.{same_then, by_set, does_following, does_visited}

-- a call that reads the pool's credited bits in one visit completes the event `bits`
pub does_bits : (h k : Held) (bits : ℕ) (l m n : Site) → Entered pool_lane h l m → VisitedIdly pool_lane k (Pool Bits) m n →
    bits ≡ (lane_of m pool_lane).pool.bits → Completes 1 BitsEvent Done (count bits) l n
does_bits h k bits l m n a b is = does_following (λ set visits. IsOutcomeOf (setting_of set) BitsEvent Done (count bits)) 1
    l m n
    a.walked a.trace
    (does_visited 0 k (Pool Bits) m n b (λ x. did_bits m.set (at m) (at n) _ bits _ _ x is))

-- a visit of the pool that credits bits, together with the steps for the threshold that it crossed, has the form of a
-- credit
pub does_credit : (h k : Held) (e : PoolEntry) (crossed : Crossing) (j l m n : Site) → Entered pool_lane h j l →
    VisitedIdly pool_lane k (Pool e) l m →
    crossed ≡ crossing (lane_of l pool_lane).pool.bits (pool_step (lane_of l pool_lane).pool e).bits →
    Does 2 (Cross (setting_of m.set) crossed) m n → Does 3 (CreditForm (setting_of j.set) e) j n
does_credit h k e crossed j l m n a b is d = does_following (λ set visits. CreditForm (setting_of set) e) 3 j l n
    a.walked a.trace (record {
      same = same_then l m n b.same d.same;
      has = d.has;
      room = (let r = b.room in let q = d.room in omega arith);
      did = did_credit l.set (at l) (at m) (at n) k.turn.place _ e _ crossed b.visited is
          (by_set (λ set visits. Cross (setting_of set) crossed) l m n b.same d.did);
    })

-- a visit of the caller's CPU found the fast pool that the caller knows at site `m`
pub does_met : (h : Held) (e : CpuEntry) (m n : Site) → IsIntOfBatch e → VisitedIdly (own_lane m) h (Cpu e) m n →
    DoesIn 1 (CpuMet m.set.cpu h.turn.place e (own_cpu m).fast) m n
does_met h e m n fits b = does_visited (own_lane m) h (Cpu e) m n b
    (λ x. did_met m.set (at m) (at n) m.set.cpu h.turn.place _ e _ fits x)

-- when a caller takes its CPU, the CPU's next place is beyond all places of the CPU that the caller knew before
pub taken_after : (h : Held) (l m : Site) → IsIdle 4 l → IsOnCpu l → Entered (own_lane m) h l m →
    own_places l ≤ h.turn.place
taken_after h l m idle cpu a =
    let longer = begins_length _ _ (a.walked.recorded.went.grows (own_lane l) (let s = idle.has.pass.sized in omega arith))
    in
    let next = a.holds.has.held.0.next
    ∙ ap (λ (lane : ℕ). length (known_of (view m.pass.now) lane)) a.holds.lane_is
    ∙ ap (λ (s : Setting). length (known_of (view m.pass.now) (s.cpu + 2))) a.walked.same.set in omega arith

-- after a visit of its CPU, the caller knows that visit: the visit's place is below the number of places that it knows
pub visit_below : (h : Held) (e : CpuEntry) (m n : Site) → VisitedIdly (own_lane m) h (Cpu e) m n →
    h.turn.place < own_places n
visit_below h e m n b =
    let low = visited_below m.set (at m) (at n) (own_lane m) h.turn.place _ (Cpu e) _ b.visited in
    let same = ap (λ (s : Setting). length (known_of (view n.pass.now) (s.cpu + 2))) b.same.set in omega arith
