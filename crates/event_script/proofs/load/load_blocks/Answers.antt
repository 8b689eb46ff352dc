use Rattle.std.proofs.Common.{◌∷◌, [], ◌++◌, map, ap, sym, ◌∙◌, arith}
use Rattle.std.specs.List.{range_with_len}
use Rattle.std.proofs.lemmas.List.{map-append}
use Rattle.std.proofs.lemmas.List.FromFn.{map-range_with_len_more}
use Rattle.event_script.specs.LoadScript.{load_events}
use Rattle.event_script.proofs.load.load_blocks.Goals as goal

pub loop-caller-preserved : goal.loop-caller-preserved
loop-caller-preserved c =
    let block = load_events c.args.start c.args.callers c.args.count in
    let before = map block (range_with_len 0 c.loop-caller.caller) in
    let block_items = c.in_ok-load_events.field-0.items in
    ap (map (λ events. events.items)) c.in_ok-push.ensures.items
    ∙ map-append (λ events. events.items) c.loop-caller.blocks.items (c.in_ok-load_events.field-0 ∷ [])
    ∙ ap (λ blocks. blocks ++ block_items ∷ []) c.loop-caller.invariant
    ∙ ap (λ events. before ++ events ∷ []) c.in_ok-load_events.ensures
    ∙ sym (map-range_with_len_more block 0 c.loop-caller.caller c.loop-caller.caller (omega arith))
