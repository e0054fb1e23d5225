use Rattle.prompt_settings.proofs.SizeLemmas.{size_of-spelled}
use Rattle.prompt_settings.proofs.laws.reads_each_size.Goals as goal

pub returns : goal.returns
returns c = size_of-spelled
