use Rattle.std.proofs.Common.{◌≡◌, ◌+◌, ◌-◌, drop, length, take, ap, ◌∙◌, arith}
use Rattle.std.specs.List.{list_any}
use Rattle.std.proofs.lemmas.List.{length-drop, length-map, take_all}
use Rattle.key_names.specs.Texts.ScriptFaults.{blocks_of}
use Rattle.key_names.proofs.Script.Drafts.{length_blocks}
use Rattle.event_script.specs.Drafts.{draft_as}
use Rattle.event_script.proofs.Tallies.{orphans}
use Rattle.event_script.proofs.whole.draft.Draft.has_orphan.Goals as goal

pub returns : goal.returns
returns c =
    let d = c.args.self.now in
    let n = c.len.result + 1 in
    let long = d.tallied.long in
    let rest : take (64 - n) (drop n d.forked) ≡ drop n d.forked =
    take_all _ _ (omega (arith, length-drop n d.forked)) in
    let blocks : n ≡ length (blocks_of (draft_as d)) =
    omega (arith, length_blocks (draft_as d), length-map d.done.items (λ block. block.items), d.done.ok.0) in
    c.is_any_set.ensures ∙ ap (list_any (λ flag. flag)) rest
    ∙ orphans (draft_as d) d.event_count d.bytes_read d.acts n d.forked d.tallied blocks
