use Rattle.boxes.proofs.stage.find.Formed.find.Goals as goal

pub returns : goal.returns
returns g c = rw (← c.held.ensures) c.find_in.ensures
