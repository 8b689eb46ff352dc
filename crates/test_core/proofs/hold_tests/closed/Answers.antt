use Rattle.std.proofs.Common.{◌≡◌, ℕ, ◌+◌, ◌*◌, ◌^◌, sym, ◌∙◌, ap, arith}
use Rattle.lane_table.specs.declared.view.View.{View}
use Rattle.lane_table.specs.Steps.{halved, child, first_view}
use Rattle.lane_table.specs.Calls.{plan_of, view}
use Rattle.lane_table.proofs.Calls.HandLemmas.{idle_of}
use Rattle.caller_run.specs.Families.{SameShare}
use Rattle.test_core.proofs.hold_tests.closed.Goals as goal

-- the view (what a pass knows and did, in proofs only) of a pass with the whole share of the table
abbrev whole : View
whole = first_view (plan_of 0 0)

-- if `p` has a quarter of the table and `h` is a half, then `h` has the same share as `p` once `h` is split
quarter_left : (h p : View) → p.share * 4 ≡ 2 ^ p.halvings → h.share ≡ 1 → h.halvings ≡ 1 → SameShare (halved h) p
quarter_left h p is share halvings = ap (λ (z : ℕ). p.share * 2 ^ (z + 1)) halvings ∙ is
    ∙ (let y : ℕ = 2 ^ p.halvings in let e : y ≡ 1 * y = omega arith in e)
    ∙ ap (λ (z : ℕ). z * 2 ^ p.halvings) (sym share)

quarter_off : (h q : View) → h.share ≡ 1 → h.halvings ≡ 1 → q.share ≡ 1 → q.halvings ≡ 2 → SameShare (child h) q
quarter_off h q one half share halvings = ap (λ (z : ℕ). q.share * 2 ^ (z + 1)) half
    ∙ ap (λ (z : ℕ). z * 4) share ∙ ap (λ (z : ℕ). 1 * 2 ^ z) (sym halvings)
    ∙ ap (λ (z : ℕ). z * 2 ^ q.halvings) (sym one)

-- if `p` has the same share as the half `h`, then `whole` has this share too once it is split
half_left : (h p : View) → h.share ≡ 1 → h.halvings ≡ 1 → SameShare h p → SameShare (halved whole) p
half_left h p one half same = ap (λ (z : ℕ). p.share * 2 ^ z) (sym half) ∙ same
    ∙ ap (λ (z : ℕ). z * 2 ^ p.halvings) one

half_off : (h : View) → h.share ≡ 1 → h.halvings ≡ 1 → SameShare (child whole) h
half_off h one half = ap (λ (z : ℕ). z * 2) one ∙ ap (λ (z : ℕ). 1 * 2 ^ z) (sym half)

pub close-requires-clause-idle : goal.close-requires-clause-idle
close-requires-clause-idle c = idle_of c.args.lanes 0 c.join_in-2.new.pass c.join_in-2.ensures.pass

pub close-requires-clause-whole : goal.close-requires-clause-whole
close-requires-clause-whole c = let h = view c.args.half in let q = view c.args.quarter in
    let first = view c.join_in.new.pass in let last = view c.join_in-2.new.pass in
    let half = c.requires.half in let quarter = c.requires.quarter in
    let most : SameShare h first = c.join_in.ensures.share h
    (quarter_left h (view c.args.pass) c.requires.pass.1 half.1 half.2)
    (quarter_off h q half.1 half.2 quarter.1 quarter.2) in
    let all : SameShare whole last = c.join_in-2.ensures.share whole (half_left h first half.1 half.2 most)
    (half_off h half.1 half.2) in
    let x : ℕ = last.share in let y : ℕ = 2 ^ last.halvings in let e : x * 1 ≡ 1 * y = all in omega arith
