-- The trace of a call records the steps of its parts in order. It records each visit that was made, and no step if
-- nothing happened.
use Rattle.std.proofs.Common.{◌≡◌, ℕ, List, [], ◌∷◌, ◌++◌, map, take, length, ◌+◌, ◌<◌, ◌≤◌, ◌^◌, max, sym, refl, ap, ◌∙◌, subst, arith, append_assoc, append-nil, length-append}
use Rattle.std.proofs.lemmas.List.{map-append}
use Rattle.std.proofs.Math.Seq.{take-append_seam}
use Rattle.std.specs.List.{AllByRecursion}
use lib.ListN.{get_elem?}
use Rattle.atomic_table.proofs.Lists.{at_last}
use Rattle.key_names.specs.declared.names.Step.{Step}
use Rattle.key_names.specs.declared.names.Step.TheVariants.{Visit as Marked}
use Rattle.key_names.specs.declared.names.Mark.{Mark}
use Rattle.key_names.specs.declared.names.Who.{Who}
use Rattle.key_names.specs.declared.names.LaneId.{LaneId}
use Rattle.key_names.specs.declared.names.LaneId.TheVariants.{Pool as PoolLane, Base as BaseLane, Cpu as CpuLane}
use Rattle.key_names.specs.Texts.TranscriptGrammar.{StepFits, LaneFits, MarkFits}
use Rattle.key_names.proofs.Lists.Each.{each_append}
use Rattle.lane_table.specs.declared.view.LaneEntry.{LaneEntry}
use Rattle.lane_table.specs.declared.view.LaneView.{LaneView}
use Rattle.lane_table.specs.declared.view.Visit.{Visit}
use Rattle.lane_table.specs.LaneNumbers.{index_of}
use Rattle.lane_table.specs.Meaning.{Model, replay}
use Rattle.lane_table.specs.declared.view.Handed.{Handed}
use Rattle.lane_table.specs.WorldRule.{known_of}
use Rattle.lane_table.specs.Steps.{Seated, filled, handed}
use Rattle.lane_table.specs.Calls.{Added, visit_by}
use Rattle.lane_table.specs.Advances.{MadeStep, visited, maker, step_of, Advances}
use Rattle.lane_table.proofs.Calls.AdvanceLemmas.{went_then, went_put}
use Rattle.rng_core.specs.declared.setting.Setting.{Setting}
use Rattle.rng_core.specs.Traces.{Moment, TraceRecords, Visited, knowing}

length_map : (xs : List MadeStep) → length (map step_of xs) ≡ length xs
length_map [] = refl
length_map (x ∷ xs) = let e = length_map xs in omega arith

-- the trace of two successive calls lists the steps of both
pub trace_then : (l m n : Moment) (xs ys : List MadeStep) → m.steps ≡ l.steps ++ map step_of xs →
    n.steps ≡ m.steps ++ map step_of ys → n.steps ≡ l.steps ++ map step_of (xs ++ ys)
trace_then l m n xs ys a b = b ∙ ap (λ (s : List Step). s ++ map step_of ys) a
    ∙ append_assoc l.steps (map step_of xs) (map step_of ys)
    ∙ ap (λ (s : List Step). l.steps ++ s) (sym (map-append step_of xs ys))

pub fits_then : (xs ys : List MadeStep) → AllByRecursion StepFits (map step_of xs) →
    AllByRecursion StepFits (map step_of ys) → AllByRecursion StepFits (map step_of (xs ++ ys))
fits_then xs ys a b = subst (AllByRecursion StepFits) (sym (map-append step_of xs ys))
    (each_append StepFits (map step_of xs) (map step_of ys) a b)

pub recorded_then : (set : Setting) (l m n : Moment) (xs ys : List MadeStep) → TraceRecords set l m xs →
    TraceRecords set m n ys →
    TraceRecords set l n (xs ++ ys)
recorded_then set l m n xs ys a b = record {
  trace = trace_then l m n xs ys a.trace b.trace;
  went = went_then set.caller set.event (length l.steps) (length m.steps) l.view m.view n.view xs ys
      (ap length a.trace ∙ (let e = length_map xs in omega (arith, length-append l.steps (map step_of xs)))) a.went
      b.went;
  fits = fits_then xs ys a.fits b.fits;
}

-- if nothing happened, the trace records no step
pub recorded_idly : (set : Setting) (m n : Moment) → n.steps ≡ m.steps →
    Advances set.caller set.event (length m.steps) m.view n.view [] → TraceRecords set m n []
recorded_idly set m n same went = record { trace = same ∙ sym (append-nil m.steps); went = went; fits = tt }

lane_fits : (lane : LaneId) → index_of lane < 2 ^ 32 → LaneFits lane
lane_fits PoolLane low = tt
lane_fits BaseLane low = tt
lane_fits (CpuLane c) low = omega arith

-- suppose that a mark has the place of a held lane, and a stamp one above the greater of the lane's last stamp `stamp`
-- and the pass's stamp `own`. If all are within their limits, the mark fits (`MarkFits`)
pub mark_fits : (mark : Mark) (lane place stamp own : ℕ) → index_of mark.lane ≡ lane → lane < 258 →
    mark.place ≡ place → place ≤ stamp → stamp < 2 ^ 62 → own ≤ 2 ^ 62 → mark.stamp ≡ max own stamp + 1 → MarkFits mark
mark_fits mark lane place stamp own on near there low early late is = record {
  lane = lane_fits mark.lane (omega arith);
  place = omega arith;
  stamp = omega arith;
}

-- if a pass gave back the lane with a visit (`Added`), and the trace records the visit's mark, `Visited` holds for this
-- visit
pub visited_by_put : (set : Setting) (m m' : Seated) (recorded recorded' : List Step) (mark : Mark) (who : Who) (e : LaneEntry)
    (lane : ℕ) → index_of mark.lane ≡ lane → mark.place ≡ length (known_of m.0 lane) → lane < length m.0.lanes →
    1 < length m.0.lanes → who ≡ maker set.caller set.event (length recorded)
    → recorded' ≡ recorded ++ Marked mark ∷ [] → MarkFits mark →
    Added lane (filled lane (visit_by who mark.stamp e) m.0) m m' →
    Visited set (knowing m.0 recorded) (knowing m'.0 recorded') lane mark.place
    (replay (known_of m.0 lane)) e (handed lane e m.0)
visited_by_put set m m' recorded recorded' mark who e lane on there near two by trace fits k = record {
  mark = mark;
  lane_is = on;
  place_is = refl;
  recorded = record {
    trace = trace;
    went = subst (λ (l : ℕ). mark.place ≡ length (known_of m.0 l) → l < length m.0.lanes →
        Added l (filled l (visit_by who mark.stamp e) m.0) m m' →
        Advances set.caller set.event (length recorded) m.0 m'.0 (visited mark e ∷ [])) on
        (λ t n a. went_put set.caller set.event (length recorded) m m' two
        (filled (index_of mark.lane) (visit_by who mark.stamp e) m.0) mark e n t refl by refl a) there near k;
    fits = (fits, tt);
  };
  met = record {
    near = (let s = k.same.sized in omega arith);
    visit = filled lane (visit_by who mark.stamp e) m.0;
    there = ap (λ (l : ℕ). get_elem? (known_of m'.0 l) mark.place) on
        ∙ ap (λ (a : LaneView). get_elem? a.known mark.place) k.here
        ∙ at_last (known_of m.0 lane) (filled lane (visit_by who mark.stamp e) m.0) mark.place (sym there);
    is = refl;
    was_handed = refl;
    before = ap (λ (l : ℕ). replay (take mark.place (known_of m'.0 l))) on
        ∙ ap (λ (a : LaneView). replay (take mark.place a.known)) k.here
        ∙ ap (λ (p : ℕ). replay (take p (known_of m.0 lane ++ filled lane (visit_by who mark.stamp e) m.0 ∷ []))) there
        ∙ ap replay (take-append_seam (known_of m.0 lane) (filled lane (visit_by who mark.stamp e) m.0 ∷ []));
  };
}

-- if no step was made from `l` to `m`, a visit from `m` to `n` is a visit from `l` to `n`
pub visited_after : (set : Setting) (l m n : Moment) (lane place : ℕ) (s : Model) (e : LaneEntry) (got : Handed) →
    TraceRecords set l m [] → Visited set m n lane place s e got → Visited set l n lane place s e got
visited_after set l m n lane place s e got a b =
    record {
      mark = b.mark;
      lane_is = b.lane_is;
      place_is = b.place_is;
      recorded = recorded_then set l m n [] (visited b.mark e ∷ []) a b.recorded;
      met = b.met;
    }

pub visited_is : (set : Setting) (m n : Moment) (lane place : ℕ) (s : Model) (e e' : LaneEntry) (got : Handed) →
    e ≡ e' → Visited set m n lane place s e got → Visited set m n lane place s e' got
visited_is set m n lane place s e e' got is k = subst (λ (z : LaneEntry). Visited set m n lane place s z got) is k

-- as `visited_by_put`, but the lane's number is given twice: `held` and `lane`, which are equal
pub visited_at : (set : Setting) (m m' : Seated) (recorded recorded' : List Step) (mark : Mark) (who : Who) (e : LaneEntry)
    (held lane : ℕ) → held ≡ lane → index_of mark.lane ≡ held → mark.place ≡ length (known_of m.0 held) →
    held < length m.0.lanes → 1 < length m.0.lanes
    → who ≡ maker set.caller set.event (length recorded) → recorded' ≡ recorded ++ Marked mark ∷ [] → MarkFits mark →
    Added held (filled held (visit_by who mark.stamp e) m.0) m m'
    → Visited set (knowing m.0 recorded) (knowing m'.0 recorded') lane mark.place
    (replay (known_of m.0 lane)) e (handed lane e m.0)
visited_at set m m' recorded recorded' mark who e held lane same on there near two by trace fits k =
    subst (λ (l : ℕ). Visited set (knowing m.0 recorded) (knowing m'.0 recorded') l
    mark.place (replay (known_of m.0 l)) e (handed l e m.0)) same
    (visited_by_put set m m' recorded recorded' mark who e held on there near two by trace fits k)

-- if the places `p` and `q` are equal, a visit at `p` is a visit at `q`
pub visited_place : (set : Setting) (m n : Moment) (lane p q : ℕ) (s : Model) (e : LaneEntry) (got : Handed) → p ≡ q →
    Visited set m n lane p s e got → Visited set m n lane q s e got
visited_place set m n lane p q s e got is k = subst (λ (z : ℕ). Visited set m n lane z s e got) is k

-- if no step was made from `m` to `n`, and the known list did not change, a visit from `l` to `m` is a visit from `l`
-- to `n`
pub visited_stays : (set : Setting) (l m n : Moment) (lane place : ℕ) (s : Model) (e : LaneEntry) (got : Handed) →
    Visited set l m lane place s e got → TraceRecords set m n [] → known_of n.view lane ≡ known_of m.view lane →
    Visited set l n lane place s e got
visited_stays set l m n lane place s e got v idle same =
    let here : known_of n.view (index_of v.mark.lane) ≡ known_of m.view (index_of v.mark.lane) =
    subst (λ (j : ℕ). known_of n.view j ≡ known_of m.view j) (sym v.lane_is) same in record {
      mark = v.mark;
      lane_is = v.lane_is;
      place_is = v.place_is;
      recorded = recorded_then set l m n (visited v.mark e ∷ []) [] v.recorded idle;
      met = record {
        near = (let a = idle.went.same.sized in let b = v.met.near in omega arith);
        visit = v.met.visit;
        there = ap (λ (xs : List Visit). get_elem? xs v.mark.place) here ∙ v.met.there;
        is = v.met.is;
        was_handed = v.met.was_handed;
        before = ap (λ (xs : List Visit). replay (take v.mark.place xs)) here ∙ v.met.before;
      };
    }
