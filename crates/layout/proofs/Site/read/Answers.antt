-- `layout::Site::read`: each field is read at its place.
-- Assumes nothing.
use Rattle.layout.specs.Layout.{head_of}
use Rattle.layout.proofs.Site.read.Goals as goal

pub returns : goal.returns
unfolding head_of
returns c = cc
