use Rattle.std.proofs.Common.{ℕ, ◌≡◌, Some, List, [], ◌++◌, map, sym, subst, ap, ◌∙◌}
use Rattle.std.specs.List.{flat_map}
use Rattle.audit_keys.specs.declared.held.HeldKey.{HeldKey}
use Rattle.audit_keys.specs.declared.held.HeldRest.{HeldRest}
use Rattle.audit_keys.specs.declared.rows.KeyRow.{KeyRow}
use Rattle.key_audit.specs.Live.{held_lines, live_keys, live_rests, lists_until, name_at, rest_line}
use Rattle.key_audit.specs.Reach.{TellsReached}
use Rattle.key_audit.proofs.KeptVisits.{kept_moments}
use Rattle.key_audit.proofs.live.live_text.Goals as goal

in_turn : (start held rests out a b c : List ℕ) → start ≡ [] → held ≡ start ++ a → rests ≡ held ++ b →
    out ≡ rests ++ c → out ≡ a ++ b ++ c
in_turn start held rests out a b c none first second third =
    third ∙ ap (λ ts. ts ++ c) (second ∙ ap (λ ts. ts ++ b) (first ∙ ap (λ ts. ts ++ a) none))

pub returns : goal.returns
returns c t callers of ms keeps =
    let are = kept_moments c.args.book.now t callers of ms keeps c.in_ok-moments.moments c.in_ok-moments.ensures.marks
    c.in_ok-moments.ensures.states in
    let following = lists_until c.args.until callers of ms in
    let is = c.in_ok-held.ensures t callers of ms keeps are in
    let rests : c.deref-5.result.now ≡ live_rests (lists_until c.args.until callers of ms) =
    c.deref-5.ensures.value ∙ is.rests in
    record {
      moments = c.in_ok-moments.moments;
      are_moments = are;
      rows = c.in_ok-rows.rows.items;
      are = c.in_ok-rows.ensures.are t callers of ms keeps;
      ordered = c.in_ok-rows.ensures.ordered;
      numbers = c.in_ok-numbers.numbers.items;
      held = ap (λ (rows : List KeyRow). map (name_at rows) c.in_ok-numbers.numbers.items)
          (sym (c.in_ok-index.ensures ∙ c.deref.ensures.value))
          ∙ c.in_ok-numbers.ensures
          ∙ ap (λ (keys : List HeldKey). map (λ held. Some held.key) keys) (c.deref-2.ensures.value ∙ is.keys);
      more = c.in_ok-reached.reached.items;
      reached = subst
          (λ (rows : List KeyRow). TellsReached c.in_ok-moments.moments rows (map (λ held. held.key) (live_keys following))
          (live_rests following) c.in_ok-reached.reached.items)
          c.deref-6.ensures.value
          (subst (λ (keys : List HeldKey). TellsReached c.in_ok-moments.moments c.deref-6.result.now
          (map (λ held. held.key) keys) (live_rests following) c.in_ok-reached.reached.items)
          (c.deref-7.ensures.value ∙ is.keys)
          (subst (λ (rests : List HeldRest). TellsReached c.in_ok-moments.moments c.deref-6.result.now
          (map (λ held. held.key) c.deref-7.result.now) rests c.in_ok-reached.reached.items)
          (c.deref-8.ensures.value ∙ is.rests) c.in_ok-reached.ensures));
      text = in_turn _ _ _ _ _ _ _ c.new-text.ensures c.in_ok-put_held.ensures c.in_ok-put_rests.ensures
          c.in_ok-extend_from_slice.ensures.items
          ∙ (λ i. held_lines c.in_ok-moments.moments (c.deref-3.ensures.value i) (c.deref-4.ensures.value i)
          ++ flat_map rest_line (rests i) ++ c.deref-9.ensures.value i);
    }
