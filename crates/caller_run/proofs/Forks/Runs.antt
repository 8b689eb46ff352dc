-- The run of a caller with all its descendants: the parts of the run make up `RanSo`. Caller 0's run fulfils the
-- premises of the law of all callers.
use Rattle.std.proofs.Common.{◌≡◌, ℕ, ◌+◌, ◌*◌, ◌^◌, ◌<◌, List, [], ◌∷◌, ◌++◌, length, refl, sym, ap, ◌∙◌, subst, arith}
use Rattle.std.specs.List.{AllByRecursion}
use Rattle.std.proofs.lemmas.List.Sums.{sum_by-cons}
use Rattle.key_names.specs.Callers.Calls.{first_setting}
use Rattle.key_names.specs.Texts.ScriptGrammar.{Script, WellFormed}
use Rattle.key_names.proofs.Lists.Each.{each_weaker}
use Rattle.lane_table.specs.declared.view.View.{View}
use Rattle.lane_table.specs.WorldRule.{known_of}
use Rattle.lane_table.specs.Steps.{Grows, both_of, halved, child as split_off}
use Rattle.lane_table.specs.Calls.{Ended}
use Rattle.lane_table.proofs.Lists.VisitLists.{begins_refl}
use Rattle.caller_run.specs.Families.{Hears, RunsIn, Family, marked_by, SameShare, SameHalves, RanOn, RanSo}
use Rattle.caller_run.specs.Forest.{Forest, numbers, AreForked}
use Rattle.caller_run.specs.Laws.{Run, RanAll}
use Rattle.caller_run.specs.Standing.{Start}
use Rattle.caller_run.proofs.Forks.Gathers.{ordered, ran_all}
use Rattle.caller_run.proofs.Orders.InOrder.{number, numbers_of, AllOnce}
use Rattle.caller_run.proofs.Forks.Joins.{OwnPlaces, joined_nothing, joined_then, family_both, family_own, share_both}
use Rattle.caller_run.proofs.Planning.OnceEach.{times_in, below, once_each}
use Rattle.caller_run.proofs.Orders.OwnPlaces.{MadeNothing, made_nothing, own_places}

-- if the pass was not split from x to u, and u and w have the same share, x and w have the same share
share_from : (x u w : View) → SameHalves x u → SameShare u w → SameShare x w
share_from x u w same s =
    ap (λ (h : ℕ). w.share * 2 ^ h) (sym same.halvings) ∙ s ∙ ap (λ (n : ℕ). n * 2 ^ w.halvings) same.share

-- if the pass was not split from x to e, `RanOn` holds for a caller that forks no more callers
pub ran_end : (script : Script) (x e : View) → SameHalves x e → RanOn script x e e [] []
ran_end script x e same = record {
  family = record { each = tt; began = tt };
  joined = joined_nothing e;
  share = share_from x e e same refl;
}

-- a fork: u is the view of the parent's pass after the fork's visit, and z is its view when the parent goes on. If
-- `RanOn` holds from z on, and `RanSo` holds for the child, then `RanOn` holds from x on
pub ran_fork : (script : Script) (x u z e w d : View) (kid : Start) (starts : List Start) (xs : List Run) (own : Run)
    (ys : List Run) → SameHalves x u → SameHalves (halved u) z → RanOn script z e w starts xs →
    kid.view ≡ split_off u → RanSo script kid d own ys → length own.end.lanes ≡ length e.lanes →
    RanOn script x e (both_of w d) (kid ∷ starts) ((own ∷ ys) ++ xs)
ran_fork script x u z e w d kid starts xs own ys before after rest view_is child alike =
    let new : MadeNothing own.begun.view = subst MadeNothing (sym (ap (λ (s : Start). s.view) child.begun_is ∙ view_is))
    (made_nothing u) in record {
      family = family_both script (kid ∷ []) starts (own ∷ ys) xs child.family rest.family;
      joined = joined_then e w d own xs ys rest.joined child.joined
          (own_places own.begun.caller child.has.events own child.has.has new) alike;
      share = share_from x u (both_of w d) before
          (share_both u w d (share_from (halved u) z w after rest.share)
          (subst (λ (v : View). SameShare v d) view_is child.share));
    }

-- if `RanOn` holds from a caller's start to its end, `RanSo` holds
pub ran_so : (script : Script) (begun : Start) (w : View) (own : Run) (runs : List Run) → own.begun ≡ begun →
    RunsIn script own → RanOn script begun.view own.end w own.kids runs → RanSo script begun w own runs
ran_so script begun w own runs is has on = record {
  begun_is = is;
  has = has;
  family = subst (λ (s : Start). Family script (s ∷ []) (own ∷ runs)) is (family_own script own runs has on.family);
  joined = on.joined;
  share = on.share;
}

-- caller 0 ran on a table, with all its descendants; the pass of caller 0 has seen all of the final lists
module _ (script : Script) (ok : WellFormed script) (root : Start) (w : View) (own : Run) (runs : List Run)
    (ran : RanSo script root w own runs) (new : MadeNothing root.view)
    (first : (root.caller ≡ 0) × (root.set ≡ first_setting)) (f : Forest)
    (are : AreForked script.callers f (0 ∷ [])) (same : numbers_of (own ∷ runs) ≡ numbers f)
    (wide : length w.lanes ≡ script.cpus + 2) (ended : Ended (script.cpus + 2) w) where
  pub once : AllOnce 0 (length script.callers) (own ∷ runs)
  once c from to = ap (times_in c) same ∙ once_each script ok f are c (omega arith)

  numbers_low : (rs : List Run) → AllByRecursion (λ x. x < length script.callers) (numbers_of rs) →
      AllByRecursion (λ r. number r < length script.callers) rs
  numbers_low [] low = tt
  numbers_low (r ∷ rs) low = (low.0, numbers_low rs low.1)

  pub low : AllByRecursion (λ r. number r < length script.callers) (own ∷ runs)
  low = numbers_low (own ∷ runs)
      (subst (AllByRecursion (λ x. x < length script.callers)) (sym same) (below script ok f are))

  -- the pass has joined all other passes. So the visits that each joined pass had seen are prefixes of the lists that
  -- the pass has seen
  hears : Hears (known_of w) w
  hears = record {
    known = λ lane near. begins_refl (known_of w lane);
    heard = λ lane near. ended.heard lane (let e = wide in omega arith);
  }

  heard : Hears (known_of w) own.end × AllByRecursion (λ r. Hears (known_of w) r.end) runs
  heard = ran.joined.hears (known_of w) hears

  mine : OwnPlaces own
  mine = own_places own.begun.caller ran.has.events own ran.has.has
      (subst MadeNothing (sym (ap (λ (s : Start). s.view) ran.begun_is)) new)

  pub whole : RanAll script (ordered script root (own ∷ runs) ran.family first once low) w
  whole =
      let long = ran.joined.sized in
      ran_all script root (own ∷ runs) ran.family first once low w (
        long,
        each_weaker (λ (r : Run). length r.end.lanes ≡ length own.end.lanes)
            (λ (r : Run). length w.lanes ≡ length r.end.lanes) runs (λ r e. long ∙ sym e) ran.joined.alike,
      ) (
        heard.0.known,
        each_weaker (λ (r : Run). Hears (known_of w) r.end) (λ (r : Run). Grows r.end w) runs
            (λ r h. h.known) heard.1,
      )
      (λ g lane near. let a = ran.joined.placed g lane (omega arith) in let b = mine.placed g lane (omega arith) in
      let c = sum_by-cons (marked_by g lane) own runs in omega arith)
      (λ lane near. let a = ran.joined.made lane (omega arith) in let b = mine.made lane (omega arith) in
      let c = sum_by-cons (marked_by (λ p. 1) lane) own runs in omega arith)
      wide ended
