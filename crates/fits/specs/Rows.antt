-- The rows of a machine fit a program: the root is live, each process stands in its own process block, has none or all of its
-- call's children, and has the newest history entry that it must.
use Rattle.std.specs.Prelude.{Bool, ◌&&◌, List}
use Rattle.rules.specs.Base.{each_of}
use Rattle.rules.specs.Machine.{Machine, root, standing}
use Rattle.rules.specs.Fits.{is_live, own_fits, newest_fits}
use Rattle.rules.specs.declared.Block.{Block}
use Rattle.fits.specs.Children.{whole_family}

unfoldable pub rows_fit : List Block → Machine → Bool
rows_fit program m =
    is_live (standing m.rows root)
    && (each_of (own_fits program m.rows) m.rows
    && (each_of (whole_family program m.rows) m.rows && each_of (newest_fits program m.history) m.rows))
