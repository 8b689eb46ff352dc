-- In two books with the same marks, the steps of a line have matching visits: same place, same maker.
use Rattle.std.proofs.Common.{take, ◌≡◌, ℕ, suc, List, [], ◌∷◌, refl, sym, subst, ap, ◌∙◌, Some, None, Option}
use Rattle.std.specs.Prelude.{slice_get, option_and_then, option_map, unwrap_or}
use Rattle.std.specs.List.{AllByRecursion}
use Rattle.std.proofs.lemmas.Option.{slice_get-map}
use Rattle.key_names.specs.declared.names.LaneId.{LaneId}
use Rattle.key_names.specs.declared.names.LaneId.TheVariants.{Pool as PoolLane, Base as BaseLane, Cpu as CpuLane}
use Rattle.key_names.specs.declared.names.Step.{Step}
use Rattle.key_names.specs.declared.names.Step.TheVariants.{Look, Visit as Marked}
use Rattle.key_names.specs.declared.names.Who.{Who}
use Rattle.key_names.specs.declared.entries.CpuEntry.{CpuEntry}
use Rattle.key_names.specs.Lanes.BaseList.{BaseMayCome, base_step, base_start}
use Rattle.key_names.specs.Lanes.CpuList.{cpu_after, CpuFits, CpuMayCome, cpu_step, cpu_start}
use Rattle.key_names.specs.Lanes.Book.{Book, Visit, Lists, lists_of, entries_of, list_at, cpu_list, LawfulLanes}
use Rattle.key_names.specs.Lanes.Samples.{SameEvent}
use Rattle.key_names.specs.Callers.Effects.{Effect, at_pool, at_base, at_cpu, effect_or, effect_at, effects_of, pool_visit, base_visit}
use Rattle.key_names.specs.Callers.Effects.{cpu_visit}
use Rattle.key_names.specs.Transcripts.IsTranscript.{MarkBy, marks_from, stamped, stamped_at}
use Rattle.key_names.proofs.Lists.Growing.{may_at}
use Rattle.key_names.proofs.Unique.TwoBooks.{SamePool, SameBase, SameCpu, SameStep, SameSteps}
use Rattle.key_names.proofs.Unique.UniqueEvents.{entries_at}

-- the visit at a place was made by `who`
pub record Found {E : Type 0} (visits : List (Visit E)) (place : ℕ) (who : Who) : Type 0 where
  pub visit : Visit E
  pub is : slice_get visits place ≡ Some visit
  pub made : visit.who ≡ who

pub found : {E : Type 0} (visits : List (Visit E)) (place stamp : ℕ) (who : Who) →
    stamped visits place ≡ Some (stamp, who) →
    Found visits place who
found {E = E} visits place stamp who at = go (slice_get visits place) refl at
  where
    go : (o : Option (Visit E)) → slice_get visits place ≡ o →
        option_and_then {U = ℕ × Who} (λ (visit : Visit E). Some (visit.stamp, visit.who)) o ≡ Some (stamp, who) →
        Found visits place who
    go None is p = cc
    go (Some visit) is p =
        let there : ℕ × Who = (visit.stamp, visit.who) in
        record { visit = visit; is = is; made = ap (λ o. (unwrap_or o there).1) p }

entry_of : {E : Type 0} (visits : List (Visit E)) (place : ℕ) (who : Who) (f : Found visits place who) →
    slice_get (entries_of visits) place ≡ Some f.visit.entry
entry_of {E = E} visits place who f =
    let entry : Visit E → E = λ visit. visit.entry in
    slice_get-map entry visits place ∙ ap (λ o. option_map entry o) f.is

-- if `xs` and `ys` are equal, so are their entries at `place`
pub one_entry : {E : Type 0} (xs ys : List E) (place : ℕ) (x y : E) → slice_get xs place ≡ Some x →
    slice_get ys place ≡ Some y →
    xs ≡ ys → x ≡ y
one_entry xs ys place x y p q same =
    ap (λ o. unwrap_or o x) (sym p ∙ ap (λ zs. slice_get zs place) same ∙ q)

module _ (book book' : Book) (lawful : LawfulLanes (lists_of book)) (lawful' : LawfulLanes (lists_of book'))
    (c n : ℕ) where
  abbrev who : Who
  who = record { caller = c; event = n; step = 0 }

  abbrev l : Lists
  l = lists_of book

  abbrev l' : Lists
  l' = lists_of book'

  abbrev by : ℕ → Who
  by i = record { caller = c; event = n; step = i }

  -- the event of `who` made the visit that `f` gives
  made_by : {E : Type 0} (visits : List (Visit E)) (i place : ℕ) (f : Found visits place (by i)) →
      SameEvent f.visit.who who
  made_by visits i place f = (ap (λ (w : Who). w.caller) f.made, ap (λ (w : Who). w.event) f.made)

  -- if SameStep holds for the effects of two entries, it holds for the effects found at the places of these entries
  effects_there : {E : Type 0} (d d' : E → Effect) (o o' : Option E) (e e' : E) → o ≡ Some e → o' ≡ Some e' →
      SameStep book book' who (d e) (d' e') → SameStep book book' who (effect_or d o) (effect_or d' o')
  effects_there {E = E} d d' o o' e e' p q same =
      let P : Option E → Type 0 = λ x. SameStep book book' who (effect_or d x) (effect_or d' o') in
      let Q : Option E → Type 0 = λ y. SameStep book book' who (d e) (effect_or d' y) in
      subst P (sym p) (subst Q (sym q) same)

  same_pool : (i place : ℕ) → Found book.pool place (by i) → Found book'.pool place (by i) →
      SameStep book book' who (effect_at l PoolLane place) (effect_at l' PoolLane place)
  same_pool i place f f' =
      let e = f.visit.entry in let e' = f'.visit.entry in
      let p = entry_of book.pool place (by i) f in let p' = entry_of book'.pool place (by i) f' in
      let same : SamePool book book' who (pool_visit l place e) (pool_visit l' place e') = record {
        place = refl;
        equal = λ pools. (let q : e ≡ e' = one_entry l.pool l'.pool place e e' p p' pools in
            λ j. pool_visit (record l { pool = pools j }) place (q j));
        mixes = λ text bits is.
            record { visit = f.visit; is = f.is; event = made_by book.pool i place f; mixes = is };
        mixes' = λ text bits is.
            record { visit = f'.visit; is = f'.is; event = made_by book'.pool i place f'; mixes = is };
      } in
      effects_there (λ x. at_pool (pool_visit l place x)) (λ x. at_pool (pool_visit l' place x)) (slice_get l.pool place)
      (slice_get l'.pool place) e e' p p' same

  same_base : (i place : ℕ) → Found book.base place (by i) → Found book'.base place (by i) →
      SameStep book book' who (effect_at l BaseLane place) (effect_at l' BaseLane place)
  same_base i place f f' =
      let e = f.visit.entry in let e' = f'.visit.entry in
      let p = entry_of book.base place (by i) f in let p' = entry_of book'.base place (by i) f' in
      let same : SameBase book book' who (base_visit l place e) (base_visit l' place e') = record {
        place = refl;
        equal = λ h. ap (λ x. base_visit x place e) h ∙ ap (λ x. base_visit l' place x)
            (one_entry l.base l'.base place e e' p p' (ap (λ (x : Lists). x.base) h));
        fits = (may_at (BaseMayCome l.pool) base_step base_start l.base place e lawful.forward.base p).fits;
        fits' = (may_at (BaseMayCome l'.pool) base_step base_start l'.base place e' lawful'.forward.base p').fits;
      } in
      effects_there (λ x. at_base (base_visit l place x)) (λ x. at_base (base_visit l' place x)) (slice_get l.base place)
      (slice_get l'.base place) e e' p p' same

  cpu_entry : (b : Book) (cpu place i : ℕ) (f : Found (list_at b.cpus cpu) place (by i)) →
      slice_get (cpu_list (lists_of b) cpu) place ≡ Some f.visit.entry
  cpu_entry b cpu place i f =
      ap (λ es. slice_get es place) (sym (entries_at b.cpus cpu)) ∙ entry_of (list_at b.cpus cpu) place (by i) f

  cpu_fits : (b : Book) → LawfulLanes (lists_of b) → (cpu place : ℕ) (e : CpuEntry) →
      slice_get (cpu_list (lists_of b) cpu) place ≡ Some e →
      CpuFits (cpu_after (lists_of b).base cpu (take place (cpu_list (lists_of b) cpu))) e
  cpu_fits b lanes cpu place e p =
      (may_at (CpuMayCome (lists_of b).base cpu) (cpu_step (lists_of b).base cpu) cpu_start (cpu_list
      (lists_of b) cpu) place
      e (lanes.forward.cpus cpu) p).fits

  same_cpu : (i cpu place : ℕ) → Found (list_at book.cpus cpu) place (by i) →
      Found (list_at book'.cpus cpu) place (by i) →
      SameStep book book' who (effect_at l (CpuLane cpu) place) (effect_at l' (CpuLane cpu) place)
  same_cpu i cpu place f f' =
      let e = f.visit.entry in let e' = f'.visit.entry in
      let p = cpu_entry book cpu place i f in let p' = cpu_entry book' cpu place i f' in
      let same : SameCpu book book' who (cpu_visit l cpu place e) (cpu_visit l' cpu place e') = record {
        cpu = refl;
        place = refl;
        equal = λ h. ap (λ x. cpu_visit x cpu place e) h ∙ ap (λ x. cpu_visit l' cpu place x)
            (one_entry (cpu_list l cpu) (cpu_list l' cpu) place e e' p p' (ap (λ x. cpu_list x cpu) h));
        fits = cpu_fits book lawful cpu place e p;
        fits' = cpu_fits book' lawful' cpu place e' p';
        dumps = λ is.
            record { visit = f.visit; is = f.is; event = made_by (list_at book.cpus cpu) i place f; dumps = is };
        dumps' = λ is.
            record { visit = f'.visit; is = f'.is; event = made_by (list_at book'.cpus cpu) i place f'; dumps = is };
      } in
      effects_there (λ x. at_cpu (cpu_visit l cpu place x)) (λ x. at_cpu (cpu_visit l' cpu place x))
      (slice_get (cpu_list l cpu) place) (slice_get (cpu_list l' cpu) place) e e' p p' same

  abbrev Conforms : Book → MarkBy → Type 0
  Conforms b m = stamped_at b m.mark.lane m.mark.place ≡ Some (m.mark.stamp, m.who)

  same_mark : (i stamp : ℕ) (lane : LaneId) (place : ℕ) → stamped_at book lane place ≡ Some (stamp, by i) →
      stamped_at book' lane place ≡ Some (stamp, by i) →
      SameStep book book' who (effect_at l lane place) (effect_at l' lane place)
  same_mark i stamp PoolLane place at at' =
      same_pool i place (found book.pool place stamp (by i) at) (found book'.pool place stamp (by i) at')
  same_mark i stamp BaseLane place at at' =
      same_base i place (found book.base place stamp (by i) at) (found book'.base place stamp (by i) at')
  same_mark i stamp (CpuLane cpu) place at at' =
      same_cpu i cpu place (found (list_at book.cpus cpu) place stamp (by i) at)
      (found (list_at book'.cpus cpu) place stamp (by i) at')

  -- if the marks of a line are visits of both books, then SameSteps holds for the line's effects
  pub same_steps : (i : ℕ) (steps : List Step) → AllByRecursion (Conforms book) (marks_from c n i steps) →
      AllByRecursion (Conforms book') (marks_from c n i steps) →
      SameSteps book book' who (effects_of l steps) (effects_of l' steps)
  same_steps i [] conform conform' = tt
  same_steps i (Look g ∷ steps) conform conform' = (refl, same_steps (suc i) steps conform conform')
  same_steps i (Marked mark ∷ steps) conform conform' =
      (same_mark i mark.stamp mark.lane mark.place conform.0 conform'.0, same_steps (suc i) steps conform.1 conform'.1)
