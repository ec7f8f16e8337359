use Rattle.std.proofs.Common.{◌≡◌, false}
use Rattle.std.specs.Prelude.{option_map}
use Rattle.rnix_base.specs.Select.{those_of}
use Rattle.rnix.specs.NodeKinds.{is_attr}
use Rattle.nix_data.specs.Added.{path_left}
use Rattle.nix_data.specs.Places.{name_bytes, values_read}
use Rattle.nix_data.proofs.nix_reader.Reader.follow.Given as goal

-- the remaining names lead from the last one to the place of the whole path
abbrev pub invariant-loop-attr : goal.invariant-loop-attr
invariant-loop-attr l = record {
  next : (goal.iterator-loop-attr).can_next l.attr-iterator;
  ends : (goal.iterator-loop-attr).is_finite l.attr-iterator;
  led : l.self.is_lossy ≡ false → path_left l.first l.set (option_map name_bytes l.last) (those_of is_attr l.attr-iterator) (values_read l.values)
      ≡ path_left l.fn.frame.first l.fn.frame.node (option_map name_bytes l.fn.before) (those_of is_attr l.fn.attrs) (values_read l.initial.values);
}
