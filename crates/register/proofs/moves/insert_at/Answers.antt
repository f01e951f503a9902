use Rattle.register.proofs.Turns.{put_in}
use Rattle.register.proofs.moves.insert_at.Goals as goal

pub returns : goal.returns
returns g c = put_in c.args.places.now c.args.place c.args.count c.args.item c.requires.within c.requires.room _ c.rotate_right.ensures.after
