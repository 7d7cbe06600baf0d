use Rattle.shape.proofs.shapes.+shape_under.Given as goal

abbrev pub decreases-shape_under : goal.decreases-shape_under
decreases-shape_under l = l.room
