mod CellLimits
mod Grounds
