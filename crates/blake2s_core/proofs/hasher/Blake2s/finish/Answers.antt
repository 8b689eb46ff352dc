use Rattle.std.proofs.Common.{◌≡◌, ℕ, ◌-◌, ◌≤◌, length, take, drop, length-drop, replicate, ◌∙◌, arith, sym, rules}
use Rattle.std.proofs.lemmas.List.{length-take-le}
use Rattle.blake2s_core.proofs.Finishing.{Conforms-blake2s}
use Rattle.blake2s_core.proofs.Words.{put_mid_to_end}
use Rattle.blake2s_core.proofs.hasher.Blake2s.finish.Goals as goal

pub returns : goal.returns
returns c = λ key text held.
    let conforms = rw (← c.self.view_is) at held in
    let rest = c.self.inside.rest in
    let used : ℕ = c.self.inside.rest_len in
    let len : length rest ≡ 64 = search rules in
    let fits : used ≤ 64 = c.self.invariant in
    let room : length rest - used ≡ 64 - used = omega arith in
    let used_is : used ≡ length (take used rest) = sym (length-take-le used rest (omega arith)) in
    let free : length (take (length rest - used) (drop used rest)) ≡ 64 - used =
    length-take-le (length rest - used) (drop used rest) (omega (arith, length-drop used rest)) ∙ room in
    let zeros = rw free at c.fill.ensures.after (λ y same. same) in
    let filled =
    put_mid_to_end used (length rest - used) rest c.fill.new.self (replicate (64 - used) 0) (omega arith) zeros in
    let last = c.hash_last-words.ensures in
    c.write_u32_into.ensures
    ∙ Conforms-blake2s _ key text _ c.hash_last-words.result used conforms used_is fits filled last
