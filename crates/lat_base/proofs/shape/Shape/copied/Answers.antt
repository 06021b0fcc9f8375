use Rattle.lat_base.proofs.ShapeFacts.{is_shape}
use Rattle.lat_base.proofs.shape.Shape.copied.Goals as goal

pub from_valid-requires : goal.from_valid-requires
from_valid-requires c = rw c.in_ok-from_slice.ensures.items (is_shape _ c.requires)
