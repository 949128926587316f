-- Each turn has a number of two digits fewer.
use Rattle.events.proofs.text.Text.+put_number.Given as goal

abbrev pub decreases-put_number : goal.decreases-put_number
decreases-put_number l = l.n
