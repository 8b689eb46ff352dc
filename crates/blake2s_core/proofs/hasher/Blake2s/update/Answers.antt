use Rattle.std.proofs.Common.{◌≡◌, ℕ, ◌++◌, ◌+◌, ◌-◌, ◌*◌, ◌/◌, ◌<◌, length, take, ap, ◌∙◌, arith, refl}
use Rattle.std.proofs.lemmas.List.{length-take-le, take_at, take_rest}
use Rattle.std.proofs.lemmas.Slice.{take-put_mid}
use Rattle.key_names.specs.Kernel.Blake2s.{inner_count, key_len, message, start_words}
use Rattle.blake2s_core.proofs.Growing.{Conforms_short, Conforms-IsAfter, Conforms_tail, filled_block, tail_of_message, chunk_block}
use borrow.Rule.Slice.PartMut.{put_mid}
use Rattle.blake2s_core.proofs.Words.{put_mid_to_end}
use Rattle.blake2s_core.proofs.hasher.Blake2s.update.Goals as goal

pub returns-then-text-room : goal.returns-then-text-room
returns-then-text-room c = λ key before held.
    let conforms = rw (← c.self.view_is) at held in
    let rest = c.self.inside.rest in
    let used : ℕ = c.self.inside.rest_len in
    let text = c.args.text.now in
    let end : ℕ = used + length text in
    let copied = c.copy_from_slice.ensures.after in
    let len = length-take-le used rest (omega arith) in
    let placed : take end (put_mid used (end - used) rest text) ≡ take used rest ++ text =
    take-put_mid used (end - used) rest text end refl (omega arith) in
    Conforms_short _ key before conforms text _ (omega (arith, len)) (rw copied placed)

pub returns : goal.returns
returns c = λ key before held.
    let conforms = rw (← c.self.view_is) at held in
    let rest = c.self.inside.rest in
    let used : ℕ = c.self.inside.rest_len in
    let text = c.args.text.now in
    let head = c.split_at.result.0.now in
    let tail = c.split_at.result.1.now in
    let cut = c.split_at.ensures.by_index.0 in
    let len = length-take-le used rest (omega arith) in
    let full : length (take used rest) + length head ≡ 64 = omega (arith, len) in
    let bytes = message key (before ++ text) in
    let start = start_words (key_len key) in
    let n : ℕ = inner_count (message key before) in
    let filled = c.copy_from_slice-2.ensures.after in
    let block = put_mid_to_end used (64 - used) rest c.copy_from_slice-2.new.self head (omega arith) filled
    ∙ filled_block _ key before conforms text head tail cut full in
    let first = c.hash_block.ensures start bytes n (Conforms-IsAfter _ key before conforms text) block in
    let is_tail = tail_of_message _ key before conforms text head tail cut full in
    let inner : ℕ = (length tail - 1) / 64 in
    let some : 0 < length tail = omega arith in
    let chunks = c.as_chunks.result.0.now in
    let whole = c.as_chunks.ensures.front_len in
    let many : length (take inner chunks) ≡ inner = length-take-le inner chunks (omega (arith, whole)) in
    let blocks = c.hash_blocks.ensures start bytes (n + 1) first (λ k below.
    chunk_block bytes tail (n + 1) inner k chunks is_tail c.as_chunks.ensures.front (omega arith) (omega arith)) in
    let copied = c.copy_from_slice-3.ensures.after in
    let kept = take_at c.copy_from_slice-3.new.self _ _ (ap length copied) ∙ copied ∙ take_rest tail (64 * inner) in
    let chain = c.hash_blocks.new.self in
    let after = rw many at blocks in
    Conforms_tail key (before ++ text) chain.words _ chain.count tail (n + 1) inner is_tail some refl after kept
