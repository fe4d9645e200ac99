-- Tables that are written: records in prefix order, their words, and what writing leaves.
pub mod PrefixLinks
pub mod Standing
pub mod StandingFits
pub mod TableWords
pub mod PrefixStanding
pub mod WrittenTable
pub mod WriteLaws
