use Rattle.sample_credit.proofs.Digits.{binary_digits-leading}
use Rattle.sample_credit.proofs.input_timer.fls.Goals as goal

pub returns : goal.returns
returns c = binary_digits-leading 32 c.args.x c.ranges.x.fits
