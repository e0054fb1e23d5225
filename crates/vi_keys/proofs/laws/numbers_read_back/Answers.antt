-- Each command is found by its own number, and no other number leads to it.
use Rattle.vi_keys.proofs.Numbers.{command_of-number_of, number_of-command_of}
use Rattle.vi_keys.proofs.laws.numbers_read_back.Goals as goal

pub returns : goal.returns
returns c = record { found = command_of-number_of; by_no_other = number_of-command_of }
