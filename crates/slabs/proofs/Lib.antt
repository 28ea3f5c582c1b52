mod HeightNumbers
mod Orders
mod SlabImages
mod SlabLists
