-- The rule of the table, part by part.
use Rattle.std.proofs.Common.{◌≡◌, ◌≢◌, ◌⊎◌, ℕ, ◌+◌, ◌-◌, ◌<◌, ◌≤◌, List, length, sym, ap, ◌∙◌, subst, inl, inr, ⊎_elim, arith, Some}
use Rattle.std.specs.List.{sum_by}
use mathlib.Core.Option.{some, none}
use lib.ListN.{get_elem?}
use Rattle.atomic_table.proofs.Lists.{at_map}
use Rattle.lane_table.specs.declared.view.Visit.{Visit}
use Rattle.lane_table.specs.declared.view.LaneView.{LaneView}
use Rattle.lane_table.specs.declared.view.View.{View}
use Rattle.lane_table.specs.declared.view.Content.{Content}
use Rattle.lane_table.specs.declared.view.TicketStage.{TicketStage}
use Rattle.lane_table.specs.declared.view.TicketStage.TheVariants.{Away, Queued, Holding}
use Rattle.lane_table.specs.Meaning.{after_of, ahead_of, parent}
use Rattle.lane_table.specs.References.{Closed, AllHalfAnswered, Pointed}
use Rattle.lane_table.specs.WorldRule.{Home, IsHolding, Owes, PassOk, Replays, St, Conforms, WorldRule, at, column, known_of, raises}
use Rattle.lane_table.specs.RuleLaws.{Counts, CountsFrom, Generation, HasTicket, IsAnswered, IsView, KnownLists, LawfulSoFar, Stamps, Tickets, Values, generation_word, serving_of, ticket_of}
use Rattle.lane_table.proofs.Lists.Lists.{all_zero, at_unmap, only_one, sum_by-map}
use Rattle.lane_table.proofs.Lists.VisitLists.{at_begun}
use Rattle.lane_table.proofs.Rule.Naming.{parent_cpu, parent_within}
use Rattle.lane_table.proofs.Lists.LawfulLists.{base_generation, cpu_below}
use Rattle.lane_table.proofs.Rule.OneLane as lane
use Rattle.lane_table.proofs.Rule.Tickets.{each_found}
use Rattle.lane_table.proofs.Book.BookAnswers.{half_finished}

-- if a pass has a ticket, the ticket is at least the serving number and below the ticket number, and `owner` maps the
-- ticket to the pass
has_conforms : (ticket serving : ℕ) (owner : ℕ → ℕ) (home : Home) (log : List Visit) (j : ℕ) (known : List Visit)
    (g : TicketStage) (t : ℕ) → Conforms ticket serving owner home log j known g → HasTicket g t
    → (serving ≤ t) × (t < ticket) × (owner t ≡ j)
has_conforms ticket serving owner home log j known Away t k h = absurd h
has_conforms ticket serving owner home log j known (Queued u) t k h =
    subst (λ (z : ℕ). (serving ≤ z) × (z < ticket) × (owner z ≡ j)) h k
has_conforms ticket serving owner home log j known (Holding u) t k h =
    subst (λ (z : ℕ). (serving ≤ z) × (z < ticket) × (owner z ≡ j)) h (let e = k.0 in omega arith, k.1, k.2)

module _ {first : ℕ} {s : St} (r : WorldRule first s) where
  abbrev count : ℕ
  count = length s.homes

  module _ (i : ℕ) (near : i < count) where
    passes : (j : ℕ) (v : View) → IsView s j v → PassOk (ticket_of s i) (serving_of s i) (r.owners i)
        (get_elem? s.homes i) (r.logs i) j (at i v)
    passes j v is = (r.lane i near).passes j (at i v) (at_map (at i) s.views j v is)

    holds : (j t : ℕ) (v : View) → IsView s j v → (at i v).stage ≡ Holding t →
        (t ≡ serving_of s i) × (t < ticket_of s i) × (r.owners i t ≡ j) × (known_of v i ≡ r.logs i)
        × (get_elem? s.homes i ≡ some none)
    holds j t v is stage = lane.holds_turn (r.lane i near) j (at_map (at i) s.views j v is) t stage

    -- if a pass has a ticket of lane `i`, the ticket is at least the serving number and below the ticket number, and
    -- `owners` maps the ticket to the pass
    column_conforms : (j t : ℕ) (a : LaneView) → get_elem? (column i s.views) j ≡ some a → HasTicket a.stage t →
        (serving_of s i ≤ t) × (t < ticket_of s i) × (r.owners i t ≡ j)
    column_conforms j t a e h = has_conforms (ticket_of s i) (serving_of s i) (r.owners i) (get_elem? s.homes i) (r.logs i)
        j a.known a.stage t ((r.lane i near).passes j a e).conforms h

    pub tickets : Tickets s i
    tickets = let ok = r.lane i near in let lo : ℕ = serving_of s i in let hi : ℕ = ticket_of s i in
        let ordered : lo ≤ hi = ok.ordered in let counted = ok.counted in record {
          ordered = ordered;
          counted = counted;
          within = λ j t v is h. let k = column_conforms j t (at i v) (at_map (at i) s.views j v is) h in (k.0, k.1);
          one = λ j k t v w is is' h h'. sym (column_conforms j t (at i v) (at_map (at i) s.views j v is) h).2
              ∙ (column_conforms k t (at i w) (at_map (at i) s.views k w is') h').2;
          each = λ t low high.
              let f = each_found (hi - lo) lo t (column i s.views)
              (λ j u a e h. let k = column_conforms j u a e h in let low' = k.0 in let high' = k.1 in (low', omega arith))
              (λ j k u a b e e' h h'. sym (column_conforms j u a e h).2 ∙ (column_conforms k u b e' h').2) (omega arith) low
              (omega arith) in
              let u = at_unmap (at i) s.views f.0 f.1 f.2 in
              (f.0, u.0, u.1, subst (λ (z : LaneView). HasTicket z.stage t) (sym u.2) f.3);
          turn = λ j t v is stage. (holds j t v is stage).0;
          loaded = λ j v is. (passes j v is).loaded;
        }

    pub counts_from : CountsFrom first s i
    counts_from = let ok = r.lane i near in record { ticket = ok.drawn; serving = ok.counted ∙ ok.drawn }

    at_home : (c : Content) → get_elem? s.homes i ≡ some (some (Some c)) → Replays i first (r.logs i) c
    at_home c e = ⊎_elim
        (λ (x : (d : Content) × (get_elem? s.homes i ≡ some (some (Some d))) × Replays i first (r.logs i) d).
        let f : ◌≡◌ {A = Home} (some (some (Some x.0))) (some (some (Some c))) = sym x.1 ∙ e in let g : x.0 ≡ c =
        cc f in subst (Replays i first (r.logs i)) g x.2)
        (λ (x : (j : ℕ) × (a : LaneView) × (get_elem? (column i s.views) j ≡ some a)
        × (a.stage ≡ Holding (serving_of s i))).
        let out = (lane.holds_turn (r.lane i near) x.0 x.2 (serving_of s i) x.3).4 in
        let f : ◌≡◌ {A = Home} (some none) (some (some (Some c))) = sym out ∙ e in absurd (cc f))
        (r.lane i near).whereabouts

    lies : ((c : Content) × (get_elem? s.homes i ≡ some (some (Some c)))) ⊎
        ((j : ℕ) × (v : View) × IsView s j v × ((at i v).stage ≡ Holding (serving_of s i)))
    lies = ⊎_elim (λ (x : (d : Content) × (get_elem? s.homes i ≡ some (some (Some d))) × Replays i first (r.logs i) d).
        inl (x.0, x.1))
        (λ (x : (j : ℕ) × (a : LaneView) × (get_elem? (column i s.views) j ≡ some a)
        × (a.stage ≡ Holding (serving_of s i))).
        let u = at_unmap (at i) s.views x.0 x.1 x.2 in inr (x.0, u.0, u.1, ap (λ (a : LaneView). a.stage) u.2 ∙ x.3))
        (r.lane i near).whereabouts

  pub known_lists : KnownLists s r.logs
  known_lists = record {
    known = λ j i v is near. (passes i near j v is).begins;
    heard = λ j i v is near. (passes i near j v is).heard;
    whole = λ j i t v is near stage. (holds i near j t v is stage).3;
    named = λ j v is. (r.views j v is).closed;
    carried = λ i near. (r.carried i, r.carries i near);
  }

  pub values : Values first s r.logs
  values = record { replays = λ i c near e. at_home i near c e; home = λ i near. lies i near }

  pub counts : Counts s r.logs
  counts = record {
    made = λ i near. (r.lane i near).made;
    placed = λ i p near. (r.lane i near).placed p;
    top = r.top;
    below = λ j v is. (r.views j v is).below;
    whole = r.whole;
    spent = λ j v is none'. (r.views j v is).spent none';
  }

  pub stamps : Stamps first s r.logs
  stamps = record { rising = λ i near. (r.lane i near).rising; passed = λ j v is. (r.views j v is).stamped }

  closed : Closed count r.logs
  closed l lo hi b p x e n = let k = r.carries l hi in let t =
      k.closed l lo hi b p x (ap (λ (z : List Visit). get_elem? z b) k.own ∙ e) n in (
        t.0,
        at_begun (r.carried l (parent l)) (r.logs (parent l)) p t.0
            (k.begins (parent l) (parent_within l count r.two)) t.1,
        t.2,
        t.3,
      )

  half : AllHalfAnswered count r.logs
  half l lo hi p b x e n = ⊎_elim (λ (t : (y : Visit) × (get_elem? (r.logs l) b ≡ some y)
      × (after_of y.entry ≡ Some p)). inl t)
      (λ (t : (b ≡ length (r.logs l)) × Owes l p s.views). inr (let q = t.0 in omega arith))
      (r.pending l lo hi p b x e n)

  answers : (l p b : ℕ) (x : Visit) → 1 ≤ l → l < count → get_elem? (r.logs (parent l)) p ≡ some x →
      ahead_of x.entry ≡ Some (l, b) → IsAnswered s r.logs l p b
  answers l p b x lo hi e n = ⊎_elim (λ (t : (y : Visit) × (get_elem? (r.logs l) b ≡ some y)
      × (after_of y.entry ≡ Some p)). inl t)
      (λ (t : (b ≡ length (r.logs l)) × Owes l p s.views). let o = t.1 in
      inr (t.0, (o.0, o.1, o.2, o.3, ((r.views o.0 o.1 o.2).owed l hi p o.3).0))) (r.pending l lo hi p b x e n)

  pub lawful_so_far : LawfulSoFar s r.logs
  lawful_so_far = record {
    lawful = r.lawful;
    closed = closed;
    answered = answers;
    book = λ callers. half_finished count r.logs callers record { low = r.two; closed = closed; lawful = r.lawful }
        half;
  }

  base_near : 1 < count
  base_near = let two = r.two in omega arith

  -- the generation word is the number of raises in the list, plus the raises of all views
  word_is : generation_word s ≡ raises (r.logs 1) + sum_by (λ (v : View). (at 1 v).raised) s.views
  word_is = r.generation ∙ ap (λ (n : ℕ). raises (r.logs 1) + n)
      (sum_by-map (λ (a : LaneView). a.raised) (at 1) s.views)

  -- while a pass holds the base, no other pass has raised the generation
  others_raised : (j k t : ℕ) (v w : View) → IsView s j v → IsView s k w → (at 1 v).stage ≡ Holding t → k ≢ j →
      (at 1 w).raised ≡ 0
  others_raised j k t v w is is' stage ne = ⊎_elim (λ (z : (at 1 w).raised ≡ 0). z)
      (λ (z : ((at 1 w).raised ≡ 1) × IsHolding (at 1 w)). let mine = holds 1 base_near j t v is stage in
      let theirs = holds 1 base_near k z.1.0 w is' z.1.1 in
      absurd (ne (sym theirs.2 ∙ ap (r.owners 1) (theirs.0 ∙ sym mine.0) ∙ mine.2))) (r.seen k w is').1

  raised_word : (j : ℕ) (v : View) → IsView s j v → ((at 1 v).raised ≡ 1) × IsHolding (at 1 v) →
      generation_word s ≡ raises (r.logs 1) + 1
  raised_word j v is k = word_is ∙ ap (λ (n : ℕ). raises (r.logs 1) + n)
      (only_one (λ (u : View). (at 1 u).raised) s.views j v is (λ i w ne e. others_raised j i k.1.0 v w is e k.1.1 ne)
      ∙ k.0)

  pub generation : Generation s r.logs
  generation = record {
    base = base_generation (r.logs 1);
    is = λ none'. let z = all_zero (λ (v : View). (at 1 v).raised) s.views none' in let w = word_is in omega arith;
    raised = λ j v is. ⊎_elim (λ (z : (at 1 v).raised ≡ 0). inl z)
        (λ (z : ((at 1 v).raised ≡ 1) × IsHolding (at 1 v)). inr
        (z.0, z.1.1 ∙ ap Holding (holds 1 base_near j z.1.0 v is z.1.1).0, raised_word j v is z)) (r.seen j v is).1;
    seen = λ j v is. (r.seen j v is).0;
    cpus = λ i lo near. let c = cpu_below count i (r.logs 1) (r.logs i) (r.lawful 1 base_near)
        (subst (λ (z : ℕ). Pointed i (r.logs z) (r.logs i)) (parent_cpu i lo) (closed i (omega arith) near)) in
        let w = word_is in omega arith;
    small = r.small;
  }
