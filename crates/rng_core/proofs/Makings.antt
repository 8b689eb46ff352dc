-- The effects of calls follow from their visits: two successive calls have the effects of both, and the visits that
-- many calls make have the forms that `key_names` defines.
use Rattle.std.proofs.Common.{◌≡◌, ℕ, ◌+◌, ◌<◌, ◌≤◌, length, arith, List, [], ◌∷◌, ◌++◌, map, Some, None, sym, refl, ap, ◌∙◌, subst, append-nil}
use Rattle.std.proofs.lemmas.List.{map-append}
use Rattle.key_names.specs.declared.entries.Taken.{Taken}
use Rattle.key_names.specs.declared.entries.PoolEntry.{PoolEntry}
use Rattle.key_names.specs.declared.entries.PoolEntry.TheVariants.{Extract, Bits}
use Rattle.key_names.specs.declared.entries.BaseEntry.{BaseEntry}
use Rattle.key_names.specs.declared.entries.BaseEntry.TheVariants.{Refill}
use Rattle.key_names.specs.declared.entries.CpuEntry.{CpuEntry}
use Rattle.key_names.specs.declared.entries.CpuEntry.TheVariants.{Read}
use Rattle.key_names.specs.Lanes.Book.{Lists}
use Rattle.key_names.specs.Callers.Effects.{Effect, looked, effect_of, effects_of}
use Rattle.key_names.specs.Callers.Answers.{effect_bytes, served_bytes, bits_read}
use Rattle.key_names.specs.Transcripts.SeenLine.{count}
use Rattle.key_names.specs.declared.events.Event.TheVariants.{Bits as BitsEvent}
use Rattle.key_names.specs.declared.events.Answer.TheVariants.{Ok as Done}
use Rattle.key_names.specs.Lanes.PoolList.{PoolState, Crossing, crossing, pool_step}
use Rattle.key_names.specs.Callers.Forms.{Rooted, BaseOnly, PoolOnly, CpuOnly, PlainRead, RefilledRead, CreditForm, Cross}
use Rattle.key_names.specs.Callers.Forms as forms
use Rattle.lane_table.specs.declared.view.Handed.{Handed}
use Rattle.lane_table.specs.declared.view.Visit.{Visit}
use Rattle.lane_table.specs.declared.view.LaneEntry.{LaneEntry}
use Rattle.lane_table.specs.declared.view.LaneEntry.TheVariants.{Pool, Base, Cpu}
use Rattle.lane_table.specs.Meaning.{Model}
use Rattle.lane_table.specs.BookLists.{book_lists}
use Rattle.lane_table.specs.VisitsMet.{IsIntOfBatch}
use Rattle.lane_table.specs.Advances.{MadeStep, visited, step_of, floor}
use Rattle.lane_table.specs.Advances as went
use Rattle.lane_table.specs.WorldRule.{known_of}
use Rattle.lane_table.proofs.Book.BookEnds.{continues_before}
use Rattle.lane_table.proofs.Rule.Sights.{sees_up}
use Rattle.lane_table.proofs.Calls.AdvanceLemmas.{went_idly}
use Rattle.rng_core.specs.declared.setting.Setting.{Setting}
use Rattle.rng_core.specs.Traces.{Moment, TraceRecords, Visited}
use Rattle.rng_core.specs.Makes.{MakesIn, Makes, Serving, Served, IsOutcomeOf, setting_of, serving}
use Rattle.rng_core.proofs.TellLemmas.{recorded_then, recorded_idly}
use Rattle.rng_core.proofs.Finding.{found_pool, found_base, found_cpu}

-- from `m` to `n` the greatest generation that the pass has seen does not fall
pub did_floor : {P : (ℕ → List Visit) → List Effect → Type 0} (set : Setting) (m n : Moment) → MakesIn P set m n →
    floor m.view ≤ floor n.view
did_floor set m n k = sees_up n.view (floor m.view) (floor n.view) k.made_steps k.recorded.went.sees

pub did_in_map : {P Q : (ℕ → List Visit) → List Effect → Type 0} (set : Setting) (m n : Moment) →
    ((visits : ℕ → List Visit) (effects : List Effect) → P visits effects → Q visits effects) → MakesIn P set m n →
    MakesIn Q set m n
did_in_map set m n f k = record {
  made_steps = k.made_steps;
  recorded = k.recorded;
  conforms = λ lanes visits callers c. f visits _ (k.conforms lanes visits callers c);
}

pub did_map : {P Q : List Effect → Type 0} (set : Setting) (m n : Moment) → ((effects : List Effect) → P effects → Q effects) →
    Makes P set m n → Makes Q set m n
did_map set m n f k = did_in_map set m n (λ visits. f) k

-- effects that have the form `F` and serve `bytes` have the form `F`
pub formed : {F : List Effect → Type 0} {bytes : List ℕ} (set : Setting) (m n : Moment) →
    Makes (Serving F bytes) set m n →
    Makes F set m n
formed set m n k = did_map set m n (λ effects h. h.form) k

pub served_of : (set : Setting) (m n : Moment) (lane place : ℕ) (s : Model) (e : LaneEntry) (got : Handed) →
    Visited set m n lane place s e got → Served set m n lane place e (serving e s got)
served_of set m n lane place s e got x = record { model = s; got = got; visited = x; serves = refl }

-- if no step was made from `l` to `m`, a call from `m` to `n` is a call from `l` to `n`
pub did_after : {P : (ℕ → List Visit) → List Effect → Type 0} (set : Setting) (l m n : Moment) → TraceRecords set l m [] →
    MakesIn P set m n → MakesIn P set l n
did_after set l m n a k = record {
  made_steps = k.made_steps;
  recorded = recorded_then set l m n [] k.made_steps a k.recorded;
  conforms = k.conforms;
}

served_after_look : (g : ℕ) (effects : List Effect) → served_bytes (looked g ∷ effects) ≡ served_bytes effects
served_after_look g [] = refl
served_after_look g (d ∷ effects) = refl

pub serving_looked : {P : ℕ → List Effect → Type 0} {bytes : List ℕ} (set : Setting) (l m n : Moment) (g : ℕ) →
    TraceRecords set l m (went.looked g ∷ []) → Makes (Serving (P g) bytes) set m n →
    Makes (Serving (forms.Looked P) bytes) set l n
serving_looked set l m n g a k = record {
  made_steps = went.looked g ∷ k.made_steps;
  recorded = recorded_then set l m n (went.looked g ∷ []) k.made_steps a k.recorded;
  conforms = λ lanes visits callers c. let h = k.conforms lanes visits callers c in
      record {
        form = (g, _, refl, h.form);
        bytes_are = h.bytes_are
            ∙ sym (served_after_look g (effects_of (book_lists lanes visits callers) (map step_of k.made_steps)));
      };
}

-- one visit of the pool, the base or a CPU, with the entry `e`, has the form of that entry alone (`PoolOnly e` for the
-- pool)
pub did_pool : (set : Setting) (m n : Moment) (place : ℕ) (s : Model) (e : PoolEntry) (got : Handed) →
    Visited set m n 0 place s (Pool e) got → Makes (PoolOnly e) set m n
did_pool set m n place s e got x = record {
  made_steps = visited x.mark (Pool e) ∷ [];
  recorded = x.recorded;
  conforms = λ lanes visits callers c. let f = found_pool lanes visits callers set m n place s got c e x in
      record { pool = f.visit; effects_are = ap (λ (d : Effect). d ∷ []) f.effect_is; is = f.is };
}

pub did_base : (set : Setting) (m n : Moment) (place : ℕ) (e : BaseEntry) (bytes : List ℕ) →
    Served set m n 1 place (Base e) bytes → Makes (Serving (BaseOnly e) bytes) set m n
did_base set m n place e bytes x = record {
  made_steps = visited x.visited.mark (Base e) ∷ [];
  recorded = x.visited.recorded;
  conforms = λ lanes visits callers c. let f = found_base lanes visits callers set m n place x.model x.got c e x.visited
      in record {
        form = record { base = f.visit; effects_are = ap (λ (d : Effect). d ∷ []) f.effect_is; is = f.is };
        bytes_are = x.serves ∙ sym f.serves ∙ ap effect_bytes (sym f.effect_is);
      };
}

pub did_cpu : (set : Setting) (m n : Moment) (cpu place : ℕ) (e : CpuEntry) (bytes : List ℕ) → IsIntOfBatch e →
    Served set m n (cpu + 2) place (Cpu e) bytes → Makes (Serving (CpuOnly cpu e) bytes) set m n
did_cpu set m n cpu place e bytes fits x = record {
  made_steps = visited x.visited.mark (Cpu e) ∷ [];
  recorded = x.visited.recorded;
  conforms = λ lanes visits callers c. let f = found_cpu lanes visits callers set m n place x.model x.got c cpu e
      x.visited fits in record {
        form = record { visit = f.visit; effects_are = ap (λ (d : Effect). d ∷ []) f.effect_is; on = f.on; is = f.is };
        bytes_are = x.serves ∙ sym f.serves ∙ ap effect_bytes (sym f.effect_is);
      };
}

-- an extraction, and then a visit of the base whose entry names the extraction's place, have the form `Rooted`
pub did_rooted : (set : Setting) (l m n : Moment) (root base : ℕ) (s : Model) (got : Handed) (entry : ℕ → BaseEntry)
    (bytes : List ℕ) → Visited set l m 0 root s (Pool (Extract set.hw base)) got →
    Served set m n 1 base (Base (entry root)) bytes
    → Makes (Serving (Rooted (setting_of set) entry) bytes) set l n
did_rooted set l m n root base s got entry bytes x y = record {
  made_steps = visited x.mark (Pool (Extract set.hw base)) ∷ visited y.visited.mark (Base (entry root)) ∷ [];
  recorded = recorded_then set l m n (visited x.mark (Pool (Extract set.hw base)) ∷ [])
      (visited y.visited.mark (Base (entry root)) ∷ []) x.recorded y.visited.recorded;
  conforms = λ lanes visits callers c.
      let f = found_pool lanes visits callers set l m root s got
      (continues_before lanes _ _ visits y.visited.recorded.went.same.sized y.visited.recorded.went.grows c)
      (Extract set.hw base) x in
      let g = found_base lanes visits callers set m n base y.model y.got c (entry root) y.visited in record {
        form = record {
          pool = f.visit;
          base = g.visit;
          effects_are = (λ i. f.effect_is i ∷ g.effect_is i ∷ []);
          extracts = f.is ∙ ap (λ (p : ℕ). Extract set.hw p) (sym g.at);
          names = g.is ∙ ap entry (sym f.at);
        };
        bytes_are = y.serves ∙ sym g.serves ∙ ap effect_bytes (sym g.effect_is);
      };
}

-- a look, and then a read from a CPU, have the form PlainRead
pub did_plain_read : (set : Setting) (l m n : Moment) (g place : ℕ) (taken : Taken) (bytes : List ℕ) →
    TraceRecords set l m (went.looked g ∷ []) → Served set m n (set.cpu + 2) place (Cpu (Read g None taken)) bytes
    → Makes (Serving (PlainRead (setting_of set) taken) bytes) set l n
did_plain_read set l m n g place taken bytes a x = record {
  made_steps = went.looked g ∷ visited x.visited.mark (Cpu (Read g None taken)) ∷ [];
  recorded = recorded_then set l m n (went.looked g ∷ []) (visited x.visited.mark (Cpu (Read g None taken)) ∷ []) a
      x.visited.recorded;
  conforms = λ lanes visits callers c. let f = found_cpu lanes visits callers set m n place x.model x.got c set.cpu
      (Read g None taken) x.visited tt in record {
        form = record {
          look = g;
          cpu = f.visit;
          effects_are = (λ i. looked g ∷ f.effect_is i ∷ []);
          on = f.on;
          reads = f.is;
        };
        bytes_are = x.serves ∙ sym f.serves ∙ ap effect_bytes (sym f.effect_is);
      };
}

pub did_refilled_read : (set : Setting) (k l m n : Moment) (g base place : ℕ) (s : Model) (got : Handed)
    (taken : Taken) (bytes : List ℕ) → TraceRecords set k l (went.looked g ∷ []) →
    Visited set l m 1 base s (Base (Refill set.cpu place)) got
    → Served set m n (set.cpu + 2) place (Cpu (Read g (Some base) taken)) bytes →
    Makes (Serving (RefilledRead (setting_of set) taken) bytes) set k n
did_refilled_read set k l m n g base place s got taken bytes a x y = record {
  made_steps = went.looked g ∷ visited x.mark (Base (Refill set.cpu place)) ∷ visited y.visited.mark
      (Cpu (Read g (Some base) taken)) ∷ [];
  recorded = recorded_then set k l n (went.looked g ∷ [])
      (visited x.mark (Base (Refill set.cpu place)) ∷ visited y.visited.mark (Cpu (Read g (Some base) taken)) ∷ []) a
      (recorded_then set l m n (visited x.mark (Base (Refill set.cpu place)) ∷ [])
      (visited y.visited.mark (Cpu (Read g (Some base) taken)) ∷ []) x.recorded y.visited.recorded);
  conforms = λ lanes visits callers c.
      let f = found_base lanes visits callers set l m base s got
      (continues_before lanes _ _ visits y.visited.recorded.went.same.sized y.visited.recorded.went.grows c)
      (Refill set.cpu place) x in
      let h = found_cpu lanes visits callers set m n place y.model y.got c set.cpu (Read g (Some base) taken) y.visited
      tt in record {
        form = record {
          look = g;
          base = f.visit;
          cpu = h.visit;
          effects_are = (λ i. looked g ∷ f.effect_is i ∷ h.effect_is i ∷ []);
          on = h.on;
          refills = f.is ∙ ap (λ (p : ℕ). Refill set.cpu p) (sym h.at);
          reads = h.is ∙ ap (λ (p : ℕ). Read g (Some p) taken) (sym f.at);
        };
        bytes_are = y.serves ∙ sym h.serves ∙ ap effect_bytes (sym h.effect_is);
      };
}

-- if P holds for an empty list of effects, a call that makes no step satisfies `Makes P`
pub did_nothing : {P : List Effect → Type 0} (set : Setting) (m : Moment) → 1 < length m.view.lanes → P [] →
    Makes P set m m
did_nothing set m two p = record {
  made_steps = [];
  recorded = recorded_idly set m m refl (went_idly set.caller set.event (length m.steps) m.view m.view
      (record { first = refl; share = refl; halvings = refl; sized = refl })
      (λ lane low. ([], sym (append-nil (known_of m.view lane)))) refl refl refl two (omega arith)
      (λ lane low. record { made = refl; places = refl; heard = refl }));
  conforms = λ lanes visits callers c. p;
}

-- if the only step from `l` to `m` is a look that found `g`, the effects are that one look
pub did_look : (set : Setting) (l m : Moment) (g : ℕ) → TraceRecords set l m (went.looked g ∷ []) →
    Makes (λ (effects : List Effect). effects ≡ looked g ∷ []) set l m
did_look set l m g a = record { made_steps = went.looked g ∷ []; recorded = a; conforms = λ lanes visits callers c. refl }

-- a visit of the pool that credits bits, together with the steps for the threshold that it crossed, has the form of a
-- credit
pub did_credit : (set : Setting) (l m n : Moment) (place : ℕ) (s : Model) (e : PoolEntry) (got : Handed)
    (crossed : Crossing) → Visited set l m 0 place s (Pool e) got →
    crossed ≡ crossing s.pool.bits (pool_step s.pool e).bits
    → Makes (Cross (setting_of set) crossed) set m n → Makes (CreditForm (setting_of set) e) set l n
did_credit set l m n place s e got crossed x is k = record {
  made_steps = visited x.mark (Pool e) ∷ k.made_steps;
  recorded = recorded_then set l m n (visited x.mark (Pool e) ∷ []) k.made_steps x.recorded k.recorded;
  conforms = λ lanes visits callers c.
      let f = found_pool lanes visits callers set l m place s got
      (continues_before lanes _ _ visits k.recorded.went.same.sized k.recorded.went.grows c) e x in
      let rest = effects_of (book_lists lanes visits callers) (map step_of k.made_steps) in record {
        pool = f.visit;
        rest = rest;
        effects_are = ap (λ (d : Effect). d ∷ rest) f.effect_is;
        credits = f.is;
        crosses = subst (λ (z : Crossing). Cross (setting_of set) z rest)
            (is ∙ (λ i. crossing (sym f.before i).bits (sym f.after i).bits)) (k.conforms lanes visits callers c);
      };
}

-- a visit of the pool that reads its credited bits completes the event `bits`
pub did_bits : (set : Setting) (m n : Moment) (place b : ℕ) (s : Model) (got : Handed) →
    Visited set m n 0 place s (Pool Bits) got → b ≡ s.pool.bits →
    Makes (IsOutcomeOf (setting_of set) BitsEvent Done (count b)) set m n
did_bits set m n place b s got x is = record {
  made_steps = visited x.mark (Pool Bits) ∷ [];
  recorded = x.recorded;
  conforms = λ lanes visits callers c. let f = found_pool lanes visits callers set m n place s got c Bits x in record {
    form = record { pool = f.visit; effects_are = ap (λ (d : Effect). d ∷ []) f.effect_is; is = f.is };
    answers = refl;
    shows = ap count (is ∙ ap (λ (z : PoolState). z.bits) (sym f.before))
        ∙ ap (λ (d : Effect). bits_read (d ∷ [])) (sym f.effect_is);
  };
}

-- the effects are the effects of two successive calls: P holds for the effects of the first call, and Q for the effects
-- of the second
pub record After (P Q : List Effect → Type 0) (effects : List Effect) : Type 0 where
  pub first : List Effect
  pub rest : List Effect
  pub effects_are : effects ≡ first ++ rest
  pub before : P first
  pub following : Q rest

pub effects_then : (book : Lists) (xs ys : List MadeStep) →
    effects_of book (map step_of (xs ++ ys)) ≡ effects_of book (map step_of xs) ++ effects_of book (map step_of ys)
effects_then book xs ys = ap (effects_of book) (map-append step_of xs ys)
    ∙ map-append (effect_of book) (map step_of xs) (map step_of ys)

pub did_in_then : {P Q : (ℕ → List Visit) → List Effect → Type 0} (set : Setting) (l m n : Moment) → MakesIn P set l m →
    MakesIn Q set m n → MakesIn (λ visits. After (P visits) (Q visits)) set l n
did_in_then set l m n a b = record {
  made_steps = a.made_steps ++ b.made_steps;
  recorded = recorded_then set l m n a.made_steps b.made_steps a.recorded b.recorded;
  conforms = λ lanes visits callers c. let book = book_lists lanes visits callers in record {
    first = effects_of book (map step_of a.made_steps);
    rest = effects_of book (map step_of b.made_steps);
    effects_are = effects_then book a.made_steps b.made_steps;
    before = a.conforms lanes visits callers (continues_before lanes _ _ visits b.recorded.went.same.sized b.recorded.went.grows
        c);
    following = b.conforms lanes visits callers c;
  };
}

pub did_then : {P Q : List Effect → Type 0} (set : Setting) (l m n : Moment) → Makes P set l m → Makes Q set m n →
    Makes (After P Q) set l n
did_then set l m n a b = did_in_then set l m n a b

-- the effects begin with a look that found `g`, and P holds for the effects after the look
pub record AfterLook (g : ℕ) (P : List Effect → Type 0) (effects : List Effect) : Type 0 where
  pub rest : List Effect
  pub effects_are : effects ≡ looked g ∷ rest
  pub holds : P rest

pub did_after_look : {P : List Effect → Type 0} (set : Setting) (l m n : Moment) (g : ℕ) →
    TraceRecords set l m (went.looked g ∷ []) → Makes P set m n → Makes (AfterLook g P) set l n
did_after_look set l m n g a k = record {
  made_steps = went.looked g ∷ k.made_steps;
  recorded = recorded_then set l m n (went.looked g ∷ []) k.made_steps a k.recorded;
  conforms = λ lanes visits callers c. record {
    rest = effects_of (book_lists lanes visits callers) (map step_of k.made_steps);
    effects_are = refl;
    holds = k.conforms lanes visits callers c;
  };
}
