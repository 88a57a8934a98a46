use Rattle.std.proofs.Common.{refl}
use Rattle.pg_image.proofs.Gatherings.{cut}
use Rattle.pg_image.proofs.image_gathering.ImageGathering.shorten.Goals as goal

pub returns : goal.returns
returns c text short h =
    cut c.args.self.now _ text short refl c.in_ok-shorten.ensures h
