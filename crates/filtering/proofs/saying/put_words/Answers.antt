-- There is room for the words.
use Rattle.text.proofs.Puts.{put_said}
use Rattle.filtering.proofs.saying.put_words.Goals as goal

pub returns : goal.returns
returns c = put_said c.put_bytes.ensures.value c.put_bytes.ensures.out_after c.requires
