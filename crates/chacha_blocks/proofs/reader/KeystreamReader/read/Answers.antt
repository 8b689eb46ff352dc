use Rattle.std.proofs.Common.{◌≡◌, ℕ, ◌+◌, ◌^◌, ◌<◌, List, length, refl, ap, ◌∙◌, arith}
use Rattle.rand_chacha.specs.ChaCha.{ChaCha}
use Rattle.chacha_blocks.specs.Place.{Place, generator_at}
use Rattle.chacha_blocks.proofs.Words.{bytes_of_fill, rest_of_fill}
use Rattle.chacha_blocks.proofs.reader.KeystreamReader.read.Goals as goal

-- if a read keeps the key, and `g` is the generator of the key at word `w`, then `g` is the generator at its own word
conforms : (key k : List ℕ) (w : ℕ) (g : ChaCha) → k ≡ key → g ≡ generator_at key w → g ≡ generator_at k g.word_pos
conforms key k w g same after = let place : g.word_pos ≡ w = ap (λ (x : ChaCha). x.word_pos) after in
    after ∙ rw (same, place) refl

pub invariant_of-self : goal.invariant_of-self
invariant_of-self c =
    let p = c.args.self.now in
    let begins = c.self.invariant ∙ ap (λ (q : Place). generator_at q.key q.word) c.self.view_is in
    let within : p.word + length c.args.buf.now < 2 ^ 67 = omega arith in
    conforms _ _ _ _ (ap (λ (q : Place). q.key) c.self.view_is)
    (rest_of_fill p.key p.word (length c.args.buf.now) _ _ _ begins c.fill_bytes_via_u32.ensures within)

pub returns-clause-bytes : goal.returns-clause-bytes
returns-clause-bytes c =
    let p = c.args.self.now in
    let begins = c.self.invariant ∙ ap (λ (q : Place). generator_at q.key q.word) c.self.view_is in
    let within : p.word + length c.args.buf.now < 2 ^ 67 = omega arith in
    bytes_of_fill p.key p.word (length c.args.buf.now) _ _ _ begins c.fill_bytes_via_u32.ensures within

pub returns-clause-place : goal.returns-clause-place
returns-clause-place c =
    let p = c.args.self.now in
    let begins = c.self.invariant ∙ ap (λ (q : Place). generator_at q.key q.word) c.self.view_is in
    let within : p.word + length c.args.buf.now < 2 ^ 67 = omega arith in
    let after = rest_of_fill p.key p.word (length c.args.buf.now) _ _ _ begins c.fill_bytes_via_u32.ensures within in
    rw (ap (λ (q : Place). q.key) c.self.view_is, ap (λ (g : ChaCha). g.word_pos) after) refl
